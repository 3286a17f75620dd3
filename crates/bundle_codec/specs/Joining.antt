-- Whole bundles, and the bundle of the union of two (this project's own format).
use Rattle.std.specs.Prelude.{◌≡◌, ◌≢◌, ◌<◌, ◌^◌, ◌⊎◌, ℕ, List, [], ◌∷◌, ◌++◌, length, Option, Some, None, Result, Ok, Err, IsOk, IsTrue}
use Rattle.op_core.specs.Ids.{Id}
use Rattle.op_core.specs.Ops.{Operation}
use Rattle.op_core.specs.Sets.{IsOpSet, join, clash}
use Rattle.op_core.specs.Thinned.{is_legal}
use Rattle.bundle_codec.specs.declared.fault.BundleFault.{BundleFault}
use Rattle.bundle_codec.specs.declared.fault.BundleFault.TheVariants as bundle_faults
use Rattle.bundle_codec.specs.declared.fault.WholeFault.{WholeFault}
use Rattle.bundle_codec.specs.declared.fault.WholeFault.TheVariants as whole
use Rattle.bundle_codec.specs.declared.fault.JoinFault.{JoinFault}
use Rattle.bundle_codec.specs.declared.fault.JoinFault.TheVariants.{Memory, Bundle, Clash}
use Rattle.bundle_codec.specs.Spelling.{bundle}
use Rattle.bundle_codec.specs.Reading.{bundle_at, TakesMemory, RefusesBundle}

-- ---- a bundle and nothing after it

-- the set of a bundle, if no bytes follow it, and else that some do
abbrev pub nothing_after : List Operation → List ℕ → Result (List Operation) WholeFault
nothing_after ops [] = Ok ops
nothing_after ops (b ∷ rest) = Err whole.Trailing

-- the set of a bundle that was read to the end of the bytes, or why none was
abbrev pub whole_if : Result (List Operation × List ℕ) BundleFault
    → Result (List Operation) WholeFault
whole_if (Ok read) = nothing_after read.0 read.1
whole_if (Err fault) = Err (whole.Bundle fault)

-- the set of the bundle that the bytes are, or its fault, or that something follows it
abbrev pub whole_at : List ℕ → Result (List Operation) WholeFault
whole_at bytes = whole_if (bundle_at bytes)

-- the bytes are one bundle, as many as a slice can have
pub record IsBundle (bytes : List ℕ) : Type 0 where
  pub ops : List Operation
  pub set : IsOpSet ops
  pub legal : IsTrue (is_legal ops)
  pub spelled : bytes ≡ bundle ops
  pub short : length bytes < 2 ^ 64

-- the bytes are a bundle and something more
pub record IsFollowed (bytes : List ℕ) : Type 0 where
  pub ops : List Operation
  pub rest : List ℕ
  pub set : IsOpSet ops
  pub legal : IsTrue (is_legal ops)
  pub some : rest ≢ []
  pub spelled : bytes ≡ bundle ops ++ rest

-- an allocation failed
abbrev pub out_of_memory : WholeFault
out_of_memory = whole.Bundle bundle_faults.Memory

-- A refusal is the one that there is. Out of memory is answered only where a bundle's own fields
-- are right and an operation is thinned.
abbrev pub RefusesWhole : List ℕ → WholeFault → Type 0
RefusesWhole bytes (whole.Bundle fault) = RefusesBundle bytes fault
RefusesWhole bytes whole.Trailing = whole_at bytes ≡ Err whole.Trailing

-- ---- the bundle of a union

-- the bundle of the union of two sets, or their clash
abbrev pub union_or_clash : List Operation → List Operation → Option Id → Result (List ℕ) JoinFault
union_or_clash a b None = Ok (bundle (join a b))
union_or_clash a b (Some id) = Err (Clash id)

-- what two readings give: the refusal of the first, else that of the second, else the bundle of the
-- union
abbrev pub of_both : Result (List Operation) WholeFault → Result (List Operation) WholeFault
    → Result (List ℕ) JoinFault
of_both (Err fault) second = Err (Bundle fault)
of_both (Ok a) (Err fault) = Err (Bundle fault)
of_both (Ok a) (Ok b) = union_or_clash a b (clash a b)

-- the bundle of the union of what both bytes spell; else the refusal of the first, else that of the
-- second, else their clash
abbrev pub bundles_joined : List ℕ → List ℕ → Result (List ℕ) JoinFault
bundles_joined x y = of_both (whole_at x) (whole_at y)

-- Memory is taken to judge the first, or to judge the second where the first is a bundle, or to
-- join two bundles.
abbrev pub JoinTakesMemory : List ℕ → List ℕ → Type 0
JoinTakesMemory x y =
    TakesMemory x ⊎ (IsOk (whole_at x) × (TakesMemory y ⊎ IsOk (whole_at y)))

-- why two bundles are not joined, where one of them is refused: out of memory is that of the
-- joining
abbrev pub join_fault : WholeFault → JoinFault
join_fault (whole.Bundle bundle_faults.Memory) = Memory
join_fault fault = Bundle fault

-- A refusal is the one that there is. Out of memory is answered only where some is taken.
abbrev pub RefusesJoin : List ℕ → List ℕ → JoinFault → Type 0
RefusesJoin x y Memory = JoinTakesMemory x y
RefusesJoin x y (Bundle fault) = bundles_joined x y ≡ Err (Bundle fault)
RefusesJoin x y (Clash id) = bundles_joined x y ≡ Err (Clash id)

-- a refusal while two sets are joined is out of memory, or the clash that there is
abbrev pub RefusesUnion : Option Id → JoinFault → Type 0
RefusesUnion found Memory = Unit {0}
RefusesUnion found (Bundle fault) = ⊥
RefusesUnion found (Clash id) = found ≡ Some id
