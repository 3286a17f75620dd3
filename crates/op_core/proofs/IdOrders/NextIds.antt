-- The greatest number among operations, and ids beyond it.
use Rattle.std.proofs.Common.{◌≡◌, ℕ, suc, ◌≤◌, ◌<◌, ◌-◌, Bool, true, false, cond, filter, nat_lt, List, [], ◌∷◌, Option, Some, None, length, arith, refl, ap, ◌∙◌}
use Rattle.std.specs.declared.cmp.Ordering.{Ordering}
use Rattle.std.specs.declared.cmp.Ordering.TheVariants.{Less, Equal, Greater}
use Rattle.std.specs.Ordering.{nat_cmp, ordering_then, is_lt, is_le}
use Rattle.std.specs.List.{slice_get, list_all}
use Rattle.std.proofs.lemmas.Bool.{and_left, and_parts, and_from, ne_eqb, lt-ltb, cond-false}
use Rattle.std.proofs.lemmas.Map.Keys.{le_from_is_le}
use Rattle.op_core.specs.Names.{name_cmp}
use Rattle.op_core.specs.Ids.{Id, id_cmp, id_below, names_fall}
use Rattle.op_core.specs.Ops.{Operation}
use Rattle.op_core.specs.Lists.{ids_of, shown_ids}
use Rattle.op_core.specs.Sets.{rises, get}
use Rattle.op_core.specs.Shown.{last, is_shown}
use Rattle.op_core.specs.NextIds.{greatest_number}
use Rattle.op_core.proofs.Sets.Union.{rises_parts}
use Rattle.op_core.proofs.Indexed.Kept.{shown_ids_rise}
use Rattle.usfm_ref.specs.declared.segment.Segment.{Segment}
use Rattle.usfm_ref.proofs.Sorted.{first_above, rises_filter}
use Rattle.op_core.proofs.IdOrders.Rising.{id_total}

-- an id below another has no greater number
pub below_number : (a b : Id) → id_below a b ≡ true → a.number ≤ b.number
below_number a b h = by (nat_cmp a.number b.number) refl h
  where
    by : (r : Ordering) → nat_cmp a.number b.number ≡ r → is_lt (ordering_then r (name_cmp a.name b.name)) ≡ true → a.number ≤ b.number
    by Less e t = le_from_is_le a.number b.number (ap is_le e)
    by Equal e t = le_from_is_le a.number b.number (ap is_le e)
    by Greater e t = cc t

abbrev pub number_in : Option Operation → ℕ
number_in None = 0
number_in (Some o) = o.id.number

-- the last of rising operations has the greatest number
pub greatest_last : (ops : List Operation) → rises ops ≡ true → greatest_number ops ≡ number_in (last ops)
greatest_last [] h = refl
greatest_last (o ∷ []) h = omega arith
greatest_last (o ∷ p ∷ ops) h =
    let parts = rises_parts o (p ∷ ops) h in
    let l = below_number o.id p.id (first_above id_cmp id_total (λ (q : Operation). q.id) o.id p ops parts.0).0 in
    let rest = greatest_last (p ∷ ops) parts.1 in
    omega (arith, l, rest)

pub last_is : (ops : List Operation) → last ops ≡ slice_get ops (length ops - 1)
last_is [] = refl
last_is (o ∷ []) = refl
last_is (o ∷ p ∷ ops) =
    let e : suc (length (p ∷ ops) - 1) ≡ length (o ∷ p ∷ ops) - 1 = omega arith in
    last_is (p ∷ ops) ∙ ap (slice_get (o ∷ p ∷ ops)) e

-- an id with a number beyond the greatest is held nowhere
pub beyond : (ops : List Operation) (q : Id) → greatest_number ops < q.number → get ops q ≡ None
beyond [] q h = refl
beyond (o ∷ ops) q h =
    cond-false _ _ _ (and_left _ _ (ne_eqb q.number o.id.number (λ e. omega arith))) ∙ beyond ops q (omega arith)

-- ---- ids that an edit names

numbers_below : (ops : List Operation) (n : ℕ) (p : Operation → Bool) → greatest_number ops < n
    → list_all (λ i. nat_lt i.number n) (ids_of (filter p ops)) ≡ true
numbers_below [] n p h = refl
numbers_below (o ∷ ops) n p h = by (numbers_below ops n p (omega arith)) (p o)
  where
    by : list_all (λ i. nat_lt i.number n) (ids_of (filter p ops)) ≡ true → (b : Bool)
        → list_all (λ i. nat_lt i.number n) (ids_of (cond b (o ∷ filter p ops) (filter p ops))) ≡ true
    by rest true = and_from (nat_lt o.id.number n) _ (lt-ltb o.id.number n (omega arith)) rest
    by rest false = rest

all_filter : {X : Type 0} (q p : X → Bool) (xs : List X) → list_all q xs ≡ true → list_all q (filter p xs) ≡ true
all_filter q p [] h = refl
all_filter q p (x ∷ xs) h = by (all_filter q p xs a.1) (p x)
  where
    a : (q x ≡ true) × (list_all q xs ≡ true)
    a = and_parts (q x) (list_all q xs) h

    by : list_all q (filter p xs) ≡ true → (b : Bool) → list_all q (cond b (x ∷ filter p xs) (filter p xs)) ≡ true
    by rest true = and_from (q x) _ a.0 rest
    by rest false = rest

-- the ids that a segment shows rise, and each has a smaller number than an id beyond all; so do some of them
pub shown_fall : (held : List Operation) (g : Segment) (id : Id) → rises held ≡ true → greatest_number held < id.number
    → names_fall id (shown_ids held g) ≡ true
shown_fall held g id h l = and_from _ _ (shown_ids_rise held g h) (numbers_below held id.number (is_shown held g) l)

-- some of the ids that an operation may name are ids that it may name
pub some_fall : (id : Id) (p : Id → Bool) (ids : List Id) → names_fall id ids ≡ true → names_fall id (filter p ids) ≡ true
some_fall id p ids h =
    let a = and_parts _ (list_all (λ i. nat_lt i.number id.number) ids) h in
    and_from _ _ (rises_filter id_cmp id_total (λ (i : Id). i) p ids a.0) (all_filter (λ i. nat_lt i.number id.number) p ids a.1)
