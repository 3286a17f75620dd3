use Rattle.std.proofs.Common.{◌≡◌}
use Rattle.replica_state.proofs.Lacking.{IsCopied}
use Rattle.replica_state.proofs.replica.Replica.copy_lacked.Given as goal

abbrev pub invariant-loop-view : goal.invariant-loop-view
invariant-loop-view l = (l.cursor ≡ l.self.held) × IsCopied l.self.held l.bundle l.new.items l.view-iterator
