-- The bytes of what is made in a world (this project's own format).
use Rattle.std.specs.Prelude.{◌≡◌, ◌≢◌, ◌<◌, ◌^◌, ℕ, List, [], ◌∷◌, ◌++◌}
use Rattle.std.specs.Prelude.{length, take, Ok, Err, Some, slice_get}
use Rattle.std.specs.List.{AllByRecursion}
use Rattle.op_core.specs.Ops.{Operation}
use Rattle.bundle_codec.specs.declared.fault.BundleFault.TheVariants.{Truncated}
use Rattle.bundle_codec.specs.declared.fault.WholeFault.TheVariants.{Bundle}
use Rattle.bundle_codec.specs.Spelling.{bundle}
use Rattle.bundle_codec.specs.Joining.{whole_at}
use Rattle.replica_state.specs.World.{Event, ReceivesCut, IsWithin, world}

-- the bytes of a bundle are read as what it holds, and each proper front of them is refused as cut
pub record IsReadWhole (ops : List Operation) : Type 0 where
  pub whole : whole_at (bundle ops) ≡ Ok ops
  pub cut : (front more : List ℕ) → bundle ops ≡ front ++ more → more ≢ [] →
      whole_at front ≡ Err (Bundle Truncated)

-- The bytes of a bundle that was made, if a slice can have as many, are read as what it holds, and
-- each proper front of them is refused as cut.
abbrev pub BundlesAreRead : Type 0
BundlesAreRead =
    (events : List Event) → AllByRecursion IsWithin events →
    (k : ℕ) (ops : List Operation) → slice_get (world events).bundles k ≡ Some ops →
    length (bundle ops) < 2 ^ 64 → IsReadWhole ops

-- the first bytes of the bundle, as many as are received, are refused as cut, and their receiving
-- changes nothing
pub record IsRefusedAsCut (past : List Event) (name : List ℕ) (k n : ℕ)
    (ops : List Operation) : Type 0 where
  pub refused : whole_at (take n (bundle ops)) ≡ Err (Bundle Truncated)
  pub unchanged : world (ReceivesCut name k n ∷ past) ≡ world past

-- The receiving of a proper front of the bytes of a bundle that was made is refused as cut, and
-- changes nothing.
abbrev pub CutReceivingsAreRefused : Type 0
CutReceivingsAreRefused =
    (past : List Event) → AllByRecursion IsWithin past →
    (name : List ℕ) (k n : ℕ) (ops : List Operation) → slice_get (world past).bundles k ≡ Some ops →
    n < length (bundle ops) → length (bundle ops) < 2 ^ 64 → IsRefusedAsCut past name k n ops
