use Rattle.std.proofs.Common.{◌≡◌, None, take}
use Rattle.replica_state.specs.Changes.{first_fault, changes_view}
use Rattle.replica_state.proofs.replica.Replica.first_fault.Given as goal

abbrev pub invariant-loop-change : goal.invariant-loop-change
invariant-loop-change l = first_fault l.self.held l.book (changes_view (take l.change-index l.changes)) ≡ None
