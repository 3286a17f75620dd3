-- Sets of operations, as lists that rise by id: the states of a join semilattice (INRIA RR-7506),
-- where joining is the union.
use Rattle.std.specs.Prelude.{◌≡◌, ℕ, Bool, false, not, List, [], ◌∷◌, Option, Some, None, IsTrue, option_map}
use Rattle.std.specs.List.{find, AllByRecursion}
use Rattle.std.specs.FinMap.Entries.{by_order}
use Rattle.usfm_ref.specs.Rising.{rises_by}
use Rattle.op_core.specs.declared.fault.SetFault.{SetFault}
use Rattle.op_core.specs.declared.fault.SetFault.TheVariants.{Memory, Clash}
use Rattle.op_core.specs.Ids.{Id, id_cmp, same_id}
use Rattle.op_core.specs.Ops.{Operation, IsOperation, with_text, agree}

-- each id is below all later ones
abbrev pub rises : List Operation → Bool
rises ops = rises_by id_cmp (λ o. o.id) ops

-- a set of operations, rising by id: no two have one id
pub record IsOpSet (held : List Operation) : Type 0 where
  pub rising : IsTrue (rises held)
  pub each : AllByRecursion IsOperation held

-- the held operation of an id
abbrev pub get : List Operation → Id → Option Operation
get held id = find (λ o. same_id id o.id) held

-- the held text, left out where either is
abbrev pub meet_text : Option (List ℕ) → Option (List ℕ) → Option (List ℕ)
meet_text None new = None
meet_text (Some held) None = None
meet_text (Some held) (Some new) = Some held

-- what stays of two operations of one id that agree: the thinned one where either is thinned, else
-- the held one
abbrev pub meet : Operation → Operation → Operation
meet held new = with_text held (meet_text held.text new.text)

-- where two sets hold an operation, these meet
abbrev pub met : Option Operation → Option Operation → Option Operation
met None y = y
met (Some x) None = Some x
met (Some x) (Some y) = Some (meet x y)

-- a set with one operation more; where its id is held, what stays of the two
abbrev pub put : Operation → List Operation → List Operation
put o [] = o ∷ []
put o (p ∷ rest) = by_order (id_cmp o.id p.id) (o ∷ p ∷ rest) (meet p o ∷ rest) (p ∷ put o rest)

-- the union of two sets: the first with each operation of the other one
abbrev pub join : List Operation → List Operation → List Operation
join held [] = held
join held (o ∷ rest) = put o (join held rest)

-- whether an operation does not agree with the one that is held under its id, if one is
abbrev pub differs : Option Operation → Operation → Bool
differs None o = false
differs (Some p) o = not (agree p o)

-- the least id under which two sets hold operations that do not agree, if there is one
abbrev pub clash : List Operation → List Operation → Option Id
clash held other = option_map (λ o. o.id) (find (λ o. differs (get held o.id) o) other)

-- a refusal is the clash that there is, or where there is none, out of memory
abbrev pub IsRefusal : Option Id → SetFault → Type 0
IsRefusal found Memory = found ≡ None
IsRefusal found (Clash id) = found ≡ Some id

-- whether there is an operation, and it agrees with this one
abbrev pub is_like : Option Operation → Operation → Bool
is_like None o = false
is_like (Some p) o = agree p o

-- each of the operations is held, by one that agrees with it
abbrev pub AreHeld : List Operation → List Operation → Type 0
AreHeld held ops = AllByRecursion (λ o. IsTrue (is_like (get held o.id) o)) ops
