use Rattle.std.proofs.Common.{string_bytes, chars}
use Rattle.std.proofs.lemmas.Iterator.{YieldsList-from_chars}
use Rattle.std.proofs.lemmas.Iterator.Consumers.{YieldsList-end}
use Rattle.plain_line.specs.Plain as plain
use Rattle.plain_line.specs.Plain.{lines}
use Rattle.plain_line.proofs.SignLemmas.{one_more, all_written}
use Rattle.plain_line.proofs.plain.push_lines.Goals as goal

pub loop-sign-preserved : goal.loop-sign-preserved
loop-sign-preserved c =
    one_more plain.sign_of_lines (string_bytes c.args.lines.now) (string_bytes c.loop-sign.lines)
    (string_bytes c.push_sign_of_lines.new.lines) c.loop-sign.yielded c.in-Some.sign c.loop-sign.invariant
    c.in_ok-push_sign_of_lines.ensures

pub returns : goal.returns
unfolding lines
returns c =
    let given = YieldsList-from_chars c.args.text.now c.utf8.text cc in
    let all = YieldsList-end given c.loop-sign.yielded _ c.loop-sign.yielded_by _ _ c.in-None.is c.next.ensures.steps in
    all_written plain.sign_of_lines (string_bytes c.loop-sign.lines) (string_bytes c.args.lines.now)
    (chars c.args.text.now) c.loop-sign.yielded c.loop-sign.invariant all.0
