use Rattle.std.proofs.Common.{◌-◌}
use Rattle.bundle_codec.proofs.NameHalves.{IsAround}
use Rattle.bundle_codec.proofs.summaries.name_ranges.find_name.Given as goal

abbrev pub invariant-halves : goal.invariant-halves
invariant-halves l = IsAround l.name l.names l.low l.high

abbrev pub decreases-halves : goal.decreases-halves
decreases-halves l = l.high - l.low
