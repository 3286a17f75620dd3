use Rattle.std.proofs.Common.{◌≡◌, max}
use Rattle.op_core.specs.NextIds.{greatest_number}
use Rattle.replica_state.proofs.one_book.greatest_number.Given as goal

abbrev pub invariant-loop-view : goal.invariant-loop-view
invariant-loop-view l = max l.greatest (greatest_number l.view-iterator) ≡ greatest_number l.bundle
