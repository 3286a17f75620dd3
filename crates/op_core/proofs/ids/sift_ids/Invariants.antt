use Rattle.std.proofs.Common.{◌≡◌, ◌≤◌, not, vec_capacity, vec_len}
use Rattle.std.proofs.lemmas.List.Filters.{FiltersInPlace}
use Rattle.op_core.proofs.ids.sift_ids.Given as goal
use Rattle.op_core.specs.NextIds.{is_among}

abbrev pub invariant-loop-i : goal.invariant-loop-i
invariant-loop-i l = record {
  filters : FiltersInPlace (λ i. not (is_among l.others i)) l.initial.ids.items l.ids.items l.kept l.i;
  within : l.kept ≤ l.i;
  capacity : vec_capacity l.ids ≡ vec_capacity l.initial.ids;
  len : vec_len l.ids ≡ vec_len l.initial.ids;
}
