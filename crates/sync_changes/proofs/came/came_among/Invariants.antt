use Rattle.std.proofs.Common.{◌≡◌, take}
use Rattle.std.specs.List.{flat_map}
use Rattle.bundle_codec.specs.Summaries.{covers}
use Rattle.sync_changes.specs.Changes.{came_at}
use Rattle.sync_changes.proofs.came.came_among.Given as goal

abbrev pub invariant-loop-segment : goal.invariant-loop-segment
invariant-loop-segment l =
    l.made.items ≡ flat_map (came_at l.after (covers l.known) l.files) (take l.segment-index l.segments)
