-- Laws of replicas that receive bundles (this project's own rule).
use Rattle.std.specs.Prelude.{◌≡◌, ℕ, List, map}
use Rattle.std.specs.List.{AllByRecursion}
use Rattle.op_core.specs.Ops.{Operation}
use Rattle.op_core.specs.Sets.{IsOpSet}
use Rattle.op_core.specs.Export.{export}
use Rattle.op_core.specs.Laws.{SameTogether}
use Rattle.replica_state.specs.States.{begun}
use Rattle.replica_state.specs.Steps.{Receive}
use Rattle.replica_state.specs.Runs.{after_all, NoneRefused}

-- Two replicas that received bundles with the same operations together, thinned ones as thinned, in
-- whatever order, grouping and repetition, hold the same operations, and export the same bytes of
-- every book, if no bundle was refused.
abbrev pub SameBundlesSameBooks : Type 0
SameBundlesSameBooks =
    (name other : List ℕ) (bundles others : List (List Operation)) →
    AllByRecursion IsOpSet bundles → AllByRecursion IsOpSet others → SameTogether bundles others →
    NoneRefused (begun name) (map Receive bundles) →
    NoneRefused (begun other) (map Receive others) →
    ((after_all (begun name) (map Receive bundles)).held
    ≡ (after_all (begun other) (map Receive others)).held)
    × ((book : List ℕ) → export (after_all (begun name) (map Receive bundles)).held book
    ≡ export (after_all (begun other) (map Receive others)).held book)
