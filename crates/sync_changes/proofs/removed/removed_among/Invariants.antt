use Rattle.std.proofs.Common.{◌≡◌, take}
use Rattle.std.specs.List.{flat_map}
use Rattle.sync_changes.specs.Changes.{removed_at}
use Rattle.sync_changes.proofs.removed.removed_among.Given as goal

abbrev pub invariant-loop-segment : goal.invariant-loop-segment
invariant-loop-segment l =
    l.made.items ≡ flat_map (removed_at l.after l.files) (take l.segment-index l.segments)
