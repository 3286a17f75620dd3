use Rattle.std.proofs.Common.{◌≡◌, take}
use Rattle.std.specs.List.{flat_map}
use Rattle.sync_changes.specs.Changes.{replaced_at}
use Rattle.sync_changes.proofs.replaced.replaced_among.Given as goal

abbrev pub invariant-loop-segment : goal.invariant-loop-segment
invariant-loop-segment l =
    l.made.items ≡ flat_map (replaced_at l.after l.files l.base l.older) (take l.segment-index l.segments)
