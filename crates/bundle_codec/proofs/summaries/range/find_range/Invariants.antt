use Rattle.std.proofs.Common.{◌-◌}
use Rattle.bundle_codec.proofs.Covered.{Between}
use Rattle.bundle_codec.proofs.summaries.range.find_range.Given as goal

abbrev pub invariant-halves : goal.invariant-halves
invariant-halves l = Between l.number l.ranges l.low l.high

abbrev pub decreases-halves : goal.decreases-halves
decreases-halves l = l.high - l.low
