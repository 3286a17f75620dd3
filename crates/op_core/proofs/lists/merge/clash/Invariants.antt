use Rattle.std.proofs.Common.{◌≡◌, ◌+◌, length, true}
use Rattle.op_core.specs.Sets.{rises, clash}
use Rattle.op_core.proofs.lists.merge.clash.Given as goal

abbrev pub invariant-pairs : goal.invariant-pairs
invariant-pairs l = record {
  left : rises l.left ≡ true;
  right : rises l.right ≡ true;
  same : clash l.left l.right ≡ clash l.held l.other;
}

abbrev pub decreases-pairs : goal.decreases-pairs
decreases-pairs l = length l.left + length l.right
