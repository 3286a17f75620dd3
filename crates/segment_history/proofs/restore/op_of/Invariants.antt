use Rattle.std.proofs.Common.{◌≡◌}
use Rattle.op_core.specs.Sets.{get}
use Rattle.segment_history.proofs.restore.op_of.Given as goal

-- what is left has the operation that all has
abbrev pub invariant-loop-op : goal.invariant-loop-op
invariant-loop-op l = get l.op-iterator l.id ≡ get l.bundle l.id
