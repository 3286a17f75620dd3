use Rattle.std.proofs.Common.{◌≡◌, map, take}
use Rattle.segment_history.specs.Histories.{history}
use Rattle.segment_history.proofs.history.histories.Given as goal

abbrev pub invariant-loop-segment : goal.invariant-loop-segment
invariant-loop-segment l = l.made.items ≡ map (history l.bundle) (take l.segment-index l.segments)
