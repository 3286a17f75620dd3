-- Whether an operation of a segment has an id, read off the operation that is held under it.
use Rattle.std.proofs.Common.{◌≡◌, Bool, true, false, cond, ◌&&◌, ◌||◌, List, [], ◌∷◌, Option, Some, None, refl, sym, ap, ◌∙◌}
use Rattle.std.proofs.Math.Bool.{and-false, and-true, or-false}
use Rattle.usfm_ref.specs.declared.segment.Segment.{Segment}
use Rattle.op_core.specs.Ids.{Id, same_id}
use Rattle.op_core.specs.Equal.{id_from_same}
use Rattle.op_core.specs.Ops.{Operation, in_segment}
use Rattle.op_core.specs.Sets.{rises, get}
use Rattle.op_core.specs.Loops.Index.{is_in}
use Rattle.op_core.proofs.Sets.Union.{AllAbove, rises_parts, get_above}

-- whether there is an operation, of the segment
abbrev pub is_of : Segment → Option Operation → Bool
is_of g None = false
is_of g (Some o) = in_segment g o

-- at most one operation has the id
pub in-get : (ops : List Operation) (g : Segment) (id : Id) → rises ops ≡ true → is_in ops g id ≡ is_of g (get ops id)
in-get [] g id h = refl
in-get (o ∷ ops) g id h = by (in-get ops g id parts.1) (same_id id o.id) refl
  where
    parts : AllAbove o.id ops × (rises ops ≡ true)
    parts = rises_parts o ops h

    by : is_in ops g id ≡ is_of g (get ops id) → (b : Bool) → same_id id o.id ≡ b
        → ((in_segment g o && b) || is_in ops g id) ≡ is_of g (cond b (Some o) (get ops id))
    by rest false e = ap (λ b. b || is_in ops g id) (and-false (in_segment g o)) ∙ rest
    by rest true e =
        let none : get ops id ≡ None = ap (get ops) (id_from_same id o.id e) ∙ get_above o.id ops parts.0 in
        (λ i. and-true (in_segment g o) i || (rest ∙ ap (is_of g) none) i) ∙ or-false (in_segment g o)

pub in_none : (ops : List Operation) (g : Segment) (id : Id) → rises ops ≡ true → None ≡ get ops id → false ≡ is_in ops g id
in_none ops g id h e = sym (in-get ops g id h ∙ ap (is_of g) (sym e))

pub in_some : (ops : List Operation) (g : Segment) (id : Id) (o : Operation) (r : Bool) → rises ops ≡ true → Some o ≡ get ops id
    → r ≡ in_segment g o → r ≡ is_in ops g id
in_some ops g id o r h e f = f ∙ sym (in-get ops g id h ∙ ap (is_of g) (sym e))
