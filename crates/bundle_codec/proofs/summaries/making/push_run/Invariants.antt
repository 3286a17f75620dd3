use Rattle.std.proofs.Common.{length}
use Rattle.bundle_codec.specs.Loops.SummaryMaking.{AddsRun}
use Rattle.bundle_codec.proofs.summaries.making.push_run.Given as goal

abbrev pub invariant-run : goal.invariant-run
invariant-run l = AddsRun l.first l.fn.ids l.ids l.fn.ranges.items l.ranges.items

abbrev pub decreases-run : goal.decreases-run
decreases-run l = length l.ids
