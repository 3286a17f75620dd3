use Rattle.std.proofs.Common.{◌≡◌, ◌++◌}
use Rattle.replica_state.proofs.replica.Replica.copy.Given as goal

abbrev pub invariant-loop-op : goal.invariant-loop-op
invariant-loop-op l = l.ops.items ++ l.op-iterator ≡ l.self.held
