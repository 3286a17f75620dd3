use Rattle.std.proofs.Common.{take}
use Rattle.std.specs.List.{AllByRecursion}
use Rattle.op_core.specs.Ops.{IsOperation}
use Rattle.op_core.proofs.lists.merge.look_at_each.Given as goal

abbrev pub invariant-loop-op : goal.invariant-loop-op
invariant-loop-op l = AllByRecursion IsOperation (take l.op-index l.new)
