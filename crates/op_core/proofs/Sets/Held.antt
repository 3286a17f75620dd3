-- The held operation of an id, by the order of ids.
use Rattle.std.proofs.Common.{◌≡◌, Bool, true, false, cond, List, [], ◌∷◌, Some, refl, sym, ap, ◌∙◌}
use Rattle.std.specs.Ordering.{is_eq}
use Rattle.op_core.specs.Ids.{Id, id_cmp, same_id}
use Rattle.op_core.specs.Ops.{Operation}
use Rattle.op_core.specs.Sets.{get}
use Rattle.op_core.specs.Equal.{id_from_same, same_id-refl}
use Rattle.usfm_ref.proofs.Sorted.{found}
use Rattle.op_core.proofs.IdOrders.Rising.{id_total, same_id-cmp}

pub get-found : (ops : List Operation) (q : Id) → get ops q ≡ found id_cmp id_total (λ (o : Operation). o.id) q ops
get-found [] q = refl
get-found (o ∷ ops) q = λ i. cond (same_id-cmp q o.id i) (Some o) (get-found ops q i)

pub same_turned : (a b : Id) → same_id a b ≡ true → same_id b a ≡ true
same_turned a b h = ap (λ (i : Id). same_id b i) (id_from_same a b h) ∙ same_id-refl b

-- what a test of the ids says of their order
pub tied_at : (q : Id) (o : Operation) (i : Id) (r : Bool) → i ≡ o.id → r ≡ same_id i q → r ≡ true → is_eq (id_cmp q o.id) ≡ true
tied_at q o i r e s t = sym (same_id-cmp q o.id) ∙ ap (same_id q) (sym e) ∙ same_turned i q (sym s ∙ t)

pub apart_at : (q : Id) (o : Operation) (i : Id) (r : Bool) → i ≡ o.id → r ≡ same_id i q → r ≡ false → is_eq (id_cmp q o.id) ≡ false
apart_at q o i r e s t = sym (same_id-cmp q o.id) ∙ ap (same_id q) (sym e) ∙ by (same_id q i) refl
  where
    by : (b : Bool) → same_id q i ≡ b → same_id q i ≡ false
    by true f = cc (sym (same_turned q i f) ∙ sym s ∙ t)
    by false f = f
