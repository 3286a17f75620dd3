use Rattle.std.proofs.Common.{length}
use Rattle.bundle_codec.specs.Loops.Merging.{at_hand}
use Rattle.bundle_codec.proofs.SoFar.{SoFar}
use Rattle.bundle_codec.proofs.summaries.making.held_ranges.Given as goal

abbrev pub invariant-runs : goal.invariant-runs
invariant-runs l = SoFar l.fn.ids (at_hand l.next l.ids) l.held

abbrev pub decreases-runs : goal.decreases-runs
decreases-runs l = length (at_hand l.next l.ids)
