-- Two walks side by side, which join the operations of two bundles one at a time.
use Rattle.std.specs.Prelude.{◌≡◌, ◌<◌, ◌+◌, ◌⊎◌, true, List, [], ◌∷◌, length, Option, Some, None, IsTrue}
use Rattle.op_core.specs.Ops.{Operation, agree}
use Rattle.op_core.specs.Sets.{rises, meet, join, clash}

-- what is left of a walk, with the next item at hand
abbrev pub at_hand : {A : Type 0} → Option A → List A → List A
at_hand None rest = []
at_hand (Some x) rest = x ∷ rest

-- a walk goes past its first operation, or is at its end
abbrev pub GoesPast : List Operation → List Operation → Option Operation → Type 0
GoesPast ops rest None = (ops ≡ []) × (rest ≡ [])
GoesPast ops rest (Some o) = ops ≡ o ∷ rest

-- Two walks go past their first operations, and give what stays of both.
pub record Meet (xs ys xs' ys' : List Operation) (both : Operation) : Type 0 where
  pub x : Operation
  pub y : Operation
  pub left : xs ≡ x ∷ xs'
  pub right : ys ≡ y ∷ ys'
  pub met : agree x y ≡ true → both ≡ meet x y

-- two walks go past their first operations, and give what stays of both if these agree; or one is
-- at its end
abbrev pub Meets : List Operation → List Operation → List Operation → List Operation
    → Option Operation → Type 0
Meets xs ys xs' ys' None = (xs ≡ []) ⊎ (ys ≡ [])
Meets xs ys xs' ys' (Some both) = Meet xs ys xs' ys' both

-- A step of a joining takes the first operation of the union, and leaves what is still to be
-- joined.
pub record Leaves (xs ys : List Operation) (first : Operation)
    (xs' ys' : List Operation) : Type 0 where
  pub union : join xs ys ≡ first ∷ join xs' ys'
  pub same_clash : clash xs' ys' ≡ clash xs ys
  pub left : IsTrue (rises xs')
  pub right : IsTrue (rises ys')
  pub fewer : length xs' + length ys' < length xs + length ys

-- a step of a joining takes the first operation of the union, or there is nothing to join
abbrev pub TakesFirst : List Operation → List Operation → List Operation → List Operation
    → Option Operation → Type 0
TakesFirst xs ys xs' ys' None = (xs ≡ []) × (ys ≡ [])
TakesFirst xs ys xs' ys' (Some first) = Leaves xs ys first xs' ys'
