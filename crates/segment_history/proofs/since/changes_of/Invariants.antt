use Rattle.std.proofs.Common.{◌≡◌, map, take}
use Rattle.bundle_codec.specs.Summaries.{covers}
use Rattle.segment_history.specs.Changes.{changed_at}
use Rattle.segment_history.proofs.since.changes_of.Given as goal

abbrev pub invariant-loop-segment : goal.invariant-loop-segment
invariant-loop-segment l = l.made.items ≡ map (changed_at l.bundle (covers l.known)) (take l.segment-index l.segments)
