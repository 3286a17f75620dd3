-- Laws of deltas (this project's own rule): what a replica sends for the summary of another one.
-- Those of replicas with thinned operations are with the laws of thinning.
use Rattle.std.specs.Prelude.{◌≡◌, List, [], length, Ok, IsTrue}
use Rattle.op_core.specs.Sets.{join}
use Rattle.op_core.specs.Thinned.{all_full}
use Rattle.bundle_codec.specs.Summaries.{NameRanges, IsSummaryOf, outside}
use Rattle.replica_state.specs.States.{State, IsState}
use Rattle.replica_state.specs.Receives.{lacked}
use Rattle.replica_state.specs.Steps.{Receive, Received, step}

-- A replica that receives the delta for its own summary, of another one without thinned operations,
-- holds the union of both sets, and never refuses it. It counts as new what it lacked.
abbrev pub DeltasGiveUnion : Type 0
DeltasGiveUnion =
    (own other : State) (s : List NameRanges) → IsState own → IsState other →
    IsTrue (all_full other.held) → IsSummaryOf own.held s →
    step own (Receive (outside s other.held)) ≡ record {
      after = record { name = own.name; held = join own.held other.held };
      reply = Received (Ok (length (lacked own.held other.held)));
    }

-- The delta for one's own summary holds nothing.
abbrev pub OwnDeltaIsEmpty : Type 0
OwnDeltaIsEmpty =
    (own : State) (s : List NameRanges) → IsState own → IsSummaryOf own.held s →
    outside s own.held ≡ []
