use Rattle.bundle_codec.specs.Summaries.{range, counted_ranges}
use Rattle.std.proofs.Common.{◌++◌}
use Rattle.bundle_codec.proofs.SummaryWholes.{pushed_on}
use Rattle.bundle_codec.proofs.summaries.writing.push_ranges.Goals as goal

pub loop-range-preserved : goal.loop-range-preserved
loop-range-preserved c = pushed_on range c.args.ranges.now c.loop-range.range-index _ c.loop-range.bytes.items c.push_range.new.bytes.items
    (c.args.bytes.now.items ++ counted_ranges c.args.ranges.now) c.loop-range-test.true c.in_ok-push_range.ensures c.loop-range.invariant
