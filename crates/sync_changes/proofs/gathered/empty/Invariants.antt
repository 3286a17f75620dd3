use Rattle.std.proofs.Common.{[], take}
use Rattle.segment_history.specs.Loops.Gathering.{HasSegments}
use Rattle.sync_changes.proofs.gathered.empty.Given as goal

abbrev pub invariant-loop-segment : goal.invariant-loop-segment
invariant-loop-segment l = HasSegments [] (take l.segment-index l.segments) l.made
