use Rattle.std.proofs.Common.{string_bytes, chars}
use Rattle.std.proofs.lemmas.Iterator.{YieldsList-from_chars}
use Rattle.std.proofs.lemmas.Iterator.Consumers.{YieldsList-end}
use Rattle.plain_line.proofs.SignLemmas.{one_more, all_written}
use Rattle.project_page.specs.Said.{reference}
use Rattle.project_page.proofs.said.push_references.Goals as goal

pub loop-sign-preserved : goal.loop-sign-preserved
loop-sign-preserved c =
    one_more reference (string_bytes c.args.said.now) (string_bytes c.loop-sign.said) (string_bytes c.push_reference.new.said)
    c.loop-sign.yielded c.in-Some.sign c.loop-sign.invariant c.in_ok-push_reference.ensures

pub returns : goal.returns
returns c =
    let given = YieldsList-from_chars c.args.text.now c.utf8.text cc in
    let all = YieldsList-end given c.loop-sign.yielded _ c.loop-sign.yielded_by _ _ c.in-None.is c.next.ensures.steps in
    all_written reference (string_bytes c.loop-sign.said) (string_bytes c.args.said.now) (chars c.args.text.now)
    c.loop-sign.yielded c.loop-sign.invariant all.0
