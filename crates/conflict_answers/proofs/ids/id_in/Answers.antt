use Rattle.std.proofs.Common.{◌≡◌, ◌∙◌, Bor, List, None, Some, Option, ℕ, sym, ap, subst}
use Rattle.std.specs.Option.{option_map}
use Rattle.std.specs.Str.{IsUtf8}
use Rattle.op_core.specs.Ids.{id_text}
use Rattle.conflict_answers.proofs.Plain.{id_plain, plain_utf8}
use Rattle.conflict_answers.proofs.ids.id_in.Goals as goal

pub returns-in_err-text-clause-only : goal.returns-in_err-text-clause-only
returns-in_err-text-clause-only c id valid is =
    let text = c.text.ensures.only (subst IsUtf8 (sym is) (plain_utf8 (id_text id) (id_plain id valid))) in
    let none : None ≡ Some c.args.word.now = sym (ap (λ (o : Option (Bor (List ℕ))). option_map (λ t. t.now) o) c.in_err-text.was) ∙ text in
    cc
