use Rattle.std.proofs.Common.{◌≤◌, is_none}
use Rattle.std.proofs.lemmas.List.Filters.{FiltersInPlace}
use Rattle.op_core.specs.Sets.{get}
use Rattle.op_core.proofs.lists.merge.remove_held.Given as goal

abbrev pub invariant-loop-i : goal.invariant-loop-i
invariant-loop-i l = record {
  filters : FiltersInPlace (λ o. is_none (get l.held o.id)) l.initial.new.items l.new.items l.kept l.i;
  within : l.kept ≤ l.i;
}
