use Rattle.std.proofs.Common.{◌≡◌, ◌++◌, drop}
use Rattle.std.specs.List.{flat_map}
use Rattle.bundle_codec.specs.Summaries.{range, counted_ranges}
use Rattle.bundle_codec.proofs.summaries.writing.push_ranges.Given as goal

abbrev pub invariant-loop-range : goal.invariant-loop-range
invariant-loop-range l = l.bytes.items ++ flat_map range (drop l.range-index l.ranges) ≡ l.fn.bytes.items ++ counted_ranges l.ranges
