use Rattle.std.proofs.Common.{◌≡◌, ◌++◌, map}
use Rattle.replica_state.proofs.gathering.Gathering.bundle.Given as goal

abbrev pub invariant-loop-view : goal.invariant-loop-view
invariant-loop-view l = map (λ view. view.now) l.views.items ++ l.view-iterator ≡ l.self
