use Rattle.std.proofs.Common.{◌-◌, ◌+◌, ◌<◌, ◌≤◌, Bool, min, length}
use Rattle.std.specs.List.Sorted.{IsPartitionedBy}
use Rattle.usfm_ref.proofs.Placed.{IsNarrowed}
use Rattle.op_core.specs.Loops.Searches.{AnswersAs}
use Rattle.op_core.proofs.ids.steps.place_by.Given as goal

abbrev pub invariant-halves : goal.invariant-halves
invariant-halves g l = record {
  ordered : l.low ≤ l.high;
  within : l.high ≤ length l.items;
  narrowed : (p : g.row.T.Denot → Bool) → AnswersAs g.P.Fn p l.holds → IsPartitionedBy p l.items
      → IsNarrowed p l.items l.low l.high;
  grows : l.initial.search.compared ≤ l.search.compared;
  counts : l.high < length l.items + l.low → min (l.initial.search.compared + 1) 18446744073709551615 ≤ l.search.compared;
}

abbrev pub decreases-halves : goal.decreases-halves
decreases-halves g l = l.high - l.low
