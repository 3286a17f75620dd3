use Rattle.std.proofs.Common.{rules, ◌≡◌, true, List, filter, sym, ap, subst, ◌∙◌}
use Rattle.std.specs.Cmp.Lexicographic.{pointwise_decides}
use Rattle.std.specs.Prelude.{IfOk}
use Rattle.op_core.specs.Equal.{id_from_same, same_id-refl}
use Rattle.op_core.specs.Ids.{Id, same_id}
use Rattle.op_core.specs.NextIds.{is_among}
use Rattle.op_core.specs.contracts.ids.op_id.OpIdPartialEq.TheImpl as equal
use Rattle.replica_state.proofs.ChangeRuns.{all_given}
use Rattle.replica_state.proofs.ids.given_among.Goals as goal

decides : (a b : Id) → (equal.eq-value.it a b ≡ true → a ≡ b) × (a ≡ b → equal.eq-value.it a b ≡ true)
decides a b =
    let e : equal.eq-value.it a b ≡ same_id a b = search rules in
    (λ h. id_from_same a b (sym e ∙ h), λ h. e ∙ subst (λ (x : Id). same_id a x ≡ true) h (same_id-refl a))

pub returns-then-eq : goal.returns-then-eq
returns-then-eq c =
    let shown = c.args.shown.now in
    let given = (pointwise_decides decides c.args.given.now shown).0 (sym c.eq.ensures ∙ c.if-eq.true) in
    let copied : IfOk c.to_vec.result (λ ids. ids.items ≡ shown) = search rules in
    subst (λ (xs : List Id). IfOk c.to_vec.result (λ ids. ids.items ≡ xs))
    (sym (all_given shown) ∙ ap (λ (xs : List Id). filter (is_among xs) shown) (sym given)) copied
