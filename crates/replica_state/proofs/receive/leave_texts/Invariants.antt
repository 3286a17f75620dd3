use Rattle.replica_state.proofs.Leaving.{IsLeaving}
use Rattle.replica_state.proofs.receive.leave_texts.Given as goal

abbrev pub invariant-loop-view : goal.invariant-loop-view
invariant-loop-view l = IsLeaving l.initial.set l.bundle l.set l.view-iterator
