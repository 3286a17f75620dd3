-- What each held operation has, and tests of all and of any.
use Rattle.std.proofs.Common.{◌≡◌, Bool, true, false, ◌||◌, List, [], ◌∷◌, refl, sym, ap, ◌∙◌, Some}
use Rattle.std.specs.List.{list_all, list_any, AllByRecursion}
use Rattle.std.proofs.lemmas.Bool.{and_parts, and_from, false≢true, cond-true, cond-false}
use Rattle.op_core.specs.Ids.{Id, same_id}
use Rattle.op_core.specs.Equal.{same_id-refl}
use Rattle.op_core.specs.Ops.{Operation}
use Rattle.op_core.specs.Sets.{rises, get}
use Rattle.op_core.proofs.Sets.Union.{rises_parts, apart_above, held_itself}
use Rattle.op_core.proofs.Sets.Clashes.{get_cases, above_of_get}

-- what each held operation has, all have
pub all_held : (P : Operation → Type 0) (ops : List Operation) → rises ops ≡ true → ((o : Operation) → get ops o.id ≡ Some o → P o)
    → AllByRecursion P ops
all_held P ops h each = by ops (held_itself ops h)
  where
    by : (xs : List Operation) → AllByRecursion (λ o. get ops o.id ≡ Some o) xs → AllByRecursion P xs
    by [] h = tt
    by (x ∷ xs) h = (each x h.0, by xs h.1)

-- the first of a list under its id
pub get_first : (o : Operation) (ops : List Operation) → get (o ∷ ops) o.id ≡ Some o
get_first o ops = cond-true (same_id o.id o.id) (Some o) (get ops o.id) (same_id-refl o.id)

-- what is held after the first
pub get_after : (o : Operation) (ops : List Operation) (q : Id) (z : Operation) → rises (o ∷ ops) ≡ true → get ops q ≡ Some z
    → get (o ∷ ops) q ≡ Some z
get_after o ops q z h g =
    let p = rises_parts o ops h in
    cond-false (same_id q o.id) (Some o) (get ops q) (apart_above q o.id (above_of_get o.id ops q z p.0 g)) ∙ g

-- ---- tests of all, and of any

-- what holds of all operations holds of the one of an id
pub all_at : (P : Operation → Bool) (ops : List Operation) (q : Id) (o : Operation) → list_all P ops ≡ true → get ops q ≡ Some o
    → P o ≡ true
all_at P [] q o h g = cc g
all_at P (x ∷ ops) q o h g =
    let p = and_parts (P x) (list_all P ops) h in
    get_cases q x ops o g (λ _ f. ap P (sym f) ∙ p.0) (λ g. all_at P ops q o p.1 g)

pub all_by : (P : Operation → Bool) (ops : List Operation) → AllByRecursion (λ o. P o ≡ true) ops → list_all P ops ≡ true
all_by P [] h = refl
all_by P (x ∷ ops) h = and_from (P x) (list_all P ops) h.0 (all_by P ops h.1)

-- what holds of whatever is held under an id holds of all operations
pub all_from : (P : Operation → Bool) (ops : List Operation) → rises ops ≡ true → ((o : Operation) → get ops o.id ≡ Some o → P o ≡ true)
    → list_all P ops ≡ true
all_from P ops h each = all_by P ops (all_held (λ o. P o ≡ true) ops h each)

-- an operation that passes a test, with the id under which it is held
pub record AnyHeld (P : Operation → Bool) (ops : List Operation) : Type 0 where
  pub one : Operation
  pub held : get ops one.id ≡ Some one
  pub passes : P one ≡ true

-- where one of a set passes a test, it is held under its id
pub any_held : (P : Operation → Bool) (ops : List Operation) → rises ops ≡ true → list_any P ops ≡ true → AnyHeld P ops
any_held P [] h a = absurd (false≢true a)
any_held P (x ∷ ops) h a = by (λ b. any_held P ops (rises_parts x ops h).1 b) (P x) refl a
  where
    by : (list_any P ops ≡ true → AnyHeld P ops) → (b : Bool) → P x ≡ b → (b || list_any P ops) ≡ true → AnyHeld P (x ∷ ops)
    by later true e a = record { one = x; held = get_first x ops; passes = e }
    by later false e a = let r = later a in record { one = r.one; held = get_after x ops r.one.id r.one h r.held; passes = r.passes }

-- what is held under an id and passes a test is one of the set that does
pub any_from : (P : Operation → Bool) (ops : List Operation) (q : Id) (o : Operation) → get ops q ≡ Some o → P o ≡ true
    → list_any P ops ≡ true
any_from P [] q o g h = cc g
any_from P (x ∷ ops) q o g h = get_cases q x ops o g (λ _ f. or_first (ap P f ∙ h)) (λ g. or_second (P x) (any_from P ops q o g h))
  where
    or_first : P x ≡ true → (P x || list_any P ops) ≡ true
    or_first e = ap (λ b. b || list_any P ops) e

    or_second : (b : Bool) → list_any P ops ≡ true → (b || list_any P ops) ≡ true
    or_second true e = refl
    or_second false e = e
