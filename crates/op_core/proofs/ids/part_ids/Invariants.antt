use Rattle.std.proofs.Common.{◌+◌, length}
use Rattle.op_core.proofs.IdOrders.Parting.{Parts}
use Rattle.op_core.proofs.ids.part_ids.Given as goal

abbrev pub invariant-pairs : goal.invariant-pairs
invariant-pairs l = Parts l.ids l.others l.ids_alone.items l.others_alone.items l.left l.right

abbrev pub decreases-pairs : goal.decreases-pairs
decreases-pairs l = length l.left + length l.right
