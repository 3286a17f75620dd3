use Rattle.std.proofs.Common.{◌≡◌, take}
use Rattle.op_core.specs.Lists.{ids_of}
use Rattle.segment_history.proofs.ids.own_ids.Given as goal

abbrev pub invariant-loop-op : goal.invariant-loop-op
invariant-loop-op l = l.ids.items ≡ ids_of (take l.op-index l.ops)
