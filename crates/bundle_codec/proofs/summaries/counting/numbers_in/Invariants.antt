use Rattle.std.proofs.Common.{◌≡◌, take}
use Rattle.std.specs.List.{sum_by}
use Rattle.bundle_codec.specs.Summaries.{range_size}
use Rattle.bundle_codec.proofs.summaries.counting.numbers_in.Given as goal

abbrev pub invariant-loop-range : goal.invariant-loop-range
invariant-loop-range l = l.total ≡ sum_by range_size (take l.range-index l.range-items)
