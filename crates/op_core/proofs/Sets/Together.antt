-- Sets that are joined one after another to the empty one.
use Rattle.std.proofs.Common.{◌≡◌, List, [], ◌∷◌, Ok, ◌⊎◌, inl, inr, arith, refl}
use Rattle.std.specs.List.{AllByRecursion, Contains}
use Rattle.op_core.specs.Ops.{Operation}
use Rattle.op_core.specs.Sets.{IsOpSet}
use Rattle.op_core.specs.Laws.{Joining, AreSets, IsInOne, union_by, IsAmong, SameTogether}
use Rattle.op_core.specs.Laws.Joining.{Part, Joined}
use Rattle.op_core.proofs.Sets.Joinings.{same_unions}

-- the sets joined one after another into a way of joining
abbrev pub joined_in : Joining → List (List Operation) → Joining
joined_in way [] = way
joined_in way (set ∷ rest) = joined_in (Joined way (Part set)) rest

are_sets : (way : Joining) (sets : List (List Operation)) → AreSets way → AllByRecursion IsOpSet sets → AreSets (joined_in way sets)
are_sets way [] w each = w
are_sets way (set ∷ rest) w each = are_sets (Joined way (Part set)) rest (w, each.0) each.1

among : (way : Joining) (sets : List (List Operation)) (o : Operation) → IsInOne (joined_in way sets) o → IsInOne way o ⊎ IsAmong sets o
among way [] o i = inl i
among way (set ∷ rest) o i = elim (among (Joined way (Part set)) rest o i) [
  | inl here ↦ elim here [ inl before ↦ inl before | inr mine ↦ inr (inl mine) ]
  | inr later ↦ inr (inr later)
]

is_in_one : (way : Joining) (sets : List (List Operation)) (o : Operation) → IsInOne way o ⊎ IsAmong sets o → IsInOne (joined_in way sets) o
is_in_one way [] o (inl before) = before
is_in_one way [] o (inr never) = absurd never
is_in_one way (set ∷ rest) o (inl before) = is_in_one (Joined way (Part set)) rest o (inl (inl before))
is_in_one way (set ∷ rest) o (inr (inl mine)) = is_in_one (Joined way (Part set)) rest o (inl (inr mine))
is_in_one way (set ∷ rest) o (inr (inr later)) = is_in_one (Joined way (Part set)) rest o (inr later)

-- the way that joins sets to the empty one
abbrev pub from_none : List (List Operation) → Joining
from_none sets = joined_in (Part []) sets

crossed : (sets others : List (List Operation)) → ((o : Operation) → IsAmong sets o → IsAmong others o) → (o : Operation)
    → IsInOne (from_none sets) o → IsInOne (from_none others) o
crossed sets others f o i = elim (among (Part []) sets o i) [
  | inl nowhere ↦ absurd (omega (arith, nowhere.1))
  | inr here ↦ is_in_one (Part []) others o (inr (f o here))
]

empty_set : IsOpSet []
empty_set = record { rising = refl; each = tt }

-- a set whose operations are together those of a list of sets is their union
pub set_from_none : (held : List Operation) (sets : List (List Operation)) (union : List Operation) → IsOpSet held
    → AllByRecursion IsOpSet sets
    → ((o : Operation) → Contains held o → IsAmong sets o) → ((o : Operation) → IsAmong sets o → Contains held o)
    → union_by (from_none sets) ≡ Ok union → held ≡ union
set_from_none held sets union h s there back e =
    same_unions (Part held) (from_none sets) held union h (are_sets (Part []) sets empty_set s) (record {
      there = λ o i. is_in_one (Part []) sets o (inr (there o i));
      back = λ o i. elim (among (Part []) sets o i) [
        | inl nowhere ↦ absurd (omega (arith, nowhere.1))
        | inr here ↦ back o here
      ];
    }) refl e

-- lists of sets that have the same operations together have the same union
pub same_from_none : (sets others : List (List Operation)) (a b : List Operation) → AllByRecursion IsOpSet sets
    → AllByRecursion IsOpSet others → SameTogether sets others → union_by (from_none sets) ≡ Ok a → union_by (from_none others) ≡ Ok b
    → a ≡ b
same_from_none sets others a b s t same ha hb =
    same_unions (from_none sets) (from_none others) a b (are_sets (Part []) sets empty_set s) (are_sets (Part []) others empty_set t)
    (record { there = crossed sets others same.there; back = crossed others sets same.back }) ha hb
