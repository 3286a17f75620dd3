use Rattle.std.proofs.Common.{◌≡◌, filter, take}
use Rattle.segment_history.specs.Naming.{is_named}
use Rattle.segment_history.proofs.since.those_named.Given as goal

abbrev pub invariant-loop-segment : goal.invariant-loop-segment
invariant-loop-segment l = l.named.items ≡ filter (is_named l.names) (take l.segment-index l.segments)
