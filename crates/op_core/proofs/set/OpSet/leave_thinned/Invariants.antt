use Rattle.std.proofs.Common.{◌≡◌, take}
use Rattle.op_core.specs.Thinned.{thin_where, is_thinned_in}
use Rattle.op_core.proofs.set.OpSet.leave_thinned.Given as goal

abbrev pub invariant-loop-op : goal.invariant-loop-op
invariant-loop-op l = l.self ≡ thin_where (is_thinned_in (take l.op-index l.others)) l.initial.self
