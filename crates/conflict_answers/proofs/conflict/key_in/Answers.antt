use Rattle.std.proofs.Common.{◌≡◌, ◌∙◌, Bor, List, None, Some, Option, ℕ, sym, ap, subst}
use Rattle.std.specs.Option.{option_map}
use Rattle.std.specs.Str.{IsUtf8}
use Rattle.usfm_ref.specs.References.{key_text}
use Rattle.conflict_answers.proofs.Lines.{key_only, key_spelled}
use Rattle.conflict_answers.proofs.Plain.{key_plain, plain_utf8}
use Rattle.conflict_answers.proofs.conflict.key_in.Goals as goal

pub returns-in_err-text-clause-only : goal.returns-in_err-text-clause-only
returns-in_err-text-clause-only c key valid is =
    let text = c.text.ensures.only (subst IsUtf8 (sym is) (plain_utf8 (key_text key) (key_plain key valid))) in
    let none : None ≡ Some c.args.word.now = sym (ap (λ (o : Option (Bor (List ℕ))). option_map (λ t. t.now) o) c.in_err-text.was) ∙ text in
    cc

pub returns-clause-spelled : goal.returns-clause-spelled
returns-clause-spelled c =
    key_spelled c.in_ok-text.field-0.now c.args.word.now c.parse.result c.ok.result c.ok.ensures.value c.parse.ensures.value
    c.in_ok-text.ensures.same

pub returns-clause-only : goal.returns-clause-only
returns-clause-only c =
    key_only c.in_ok-text.field-0.now c.args.word.now c.parse.result c.ok.result c.ok.ensures.value c.parse.ensures.value
    c.in_ok-text.ensures.same
