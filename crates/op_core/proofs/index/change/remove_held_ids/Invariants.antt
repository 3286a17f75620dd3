use Rattle.std.proofs.Common.{◌≤◌, not}
use Rattle.std.proofs.lemmas.List.Filters.{FiltersInPlace}
use Rattle.op_core.specs.Loops.Index.{is_in}
use Rattle.op_core.proofs.index.change.remove_held_ids.Given as goal

abbrev pub invariant-loop-i : goal.invariant-loop-i
invariant-loop-i l = record {
  filters : FiltersInPlace (λ i. not (is_in l.held l.segment i)) l.initial.ids.items l.ids.items l.kept l.i;
  within : l.kept ≤ l.i;
}
