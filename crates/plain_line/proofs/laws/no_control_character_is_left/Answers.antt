use Rattle.std.proofs.Common.{chars, ap, ◌∙◌}
use Rattle.std.proofs.lemmas.Str.{chars-encodes, scalars-chars, encodes-chars}
use Rattle.std.specs.Prelude.{encode_utf8_all}
use Rattle.std.specs.List.{list_all}
use Rattle.plain_line.specs.Plain.{sign_of_lines, line, lines, text}
use Rattle.plain_line.proofs.ControlLemmas.{may_stand, signs_pass}
use Rattle.plain_line.proofs.ControlLemmas.{line_sign_may_stand, line_sign_is_scalar}
use Rattle.plain_line.proofs.ControlLemmas.{plain_stays, plain_text_stays}
use Rattle.plain_line.proofs.LineLemmas.{line_is_plain, text_is_plain}
use Rattle.plain_line.proofs.laws.no_control_character_is_left.Goals as goal

pub returns-clause-line : goal.returns-clause-line
returns-clause-line c = line_is_plain _ c.utf8.text

pub returns-clause-lines : goal.returns-clause-lines
unfolding lines
returns-clause-lines c =
    let cs = chars c.args.text.now in
    let all = signs_pass sign_of_lines may_stand (λ d s. line_sign_may_stand d) line_sign_is_scalar cs (scalars-chars _ c.utf8.text) in
    ap (list_all may_stand) (chars-encodes _ all.1) ∙ all.0

pub returns-clause-same : goal.returns-clause-same
unfolding line
returns-clause-same c = λ h. ap encode_utf8_all (plain_stays (chars c.args.text.now) h) ∙ encodes-chars _ c.utf8.text

pub returns-clause-texts : goal.returns-clause-texts
returns-clause-texts c = text_is_plain c.args.returns _ c.utf8.text

pub returns-clause-same_text : goal.returns-clause-same_text
unfolding text
returns-clause-same_text c =
    λ h. ap encode_utf8_all (plain_text_stays c.args.returns (chars c.args.text.now) h) ∙ encodes-chars _ c.utf8.text
