use Rattle.std.proofs.Common.{◌≡◌, ◌≤◌, ◌+◌, length, None, vec_capacity}
use Rattle.usfm_tree.specs.Reading as reading
use Rattle.usfm_tree.specs.Loops.ReaderViews.{opens_in}
use Rattle.usfm_tree.specs.Loops.RoleViews.{role_view}
use Rattle.usfm_tree.specs.StepViews.{Unwinds}
use Rattle.usfm_tree.proofs.unwind.unwind.Given as goal

abbrev pub invariant-loop-count : goal.invariant-loop-count
invariant-loop-count l = record {
  unwinds : Unwinds l.role (opens_in l.initial.open_nodes.items) l.without_mark None (opens_in l.open_nodes.items);
  counted : l.count ≡ reading.ended (opens_in l.open_nodes.items) (role_view l.role);
  within : l.count ≤ length l.open_nodes.items;
  sum : l.without_mark + length l.open_nodes.items ≡ length l.initial.open_nodes.items;
  capacity : vec_capacity l.open_nodes ≡ vec_capacity l.initial.open_nodes;
}

abbrev pub decreases-loop-count : goal.decreases-loop-count
decreases-loop-count l = length l.open_nodes.items
