use Rattle.std.proofs.Common.{◌≡◌, ◌++◌}
use Rattle.op_core.specs.OneBook.{ops_of_book}
use Rattle.replica_state.proofs.one_book.copy_of_book.Given as goal

abbrev pub invariant-loop-view : goal.invariant-loop-view
invariant-loop-view l = l.ops.items ++ ops_of_book l.view-iterator l.book ≡ ops_of_book l.bundle l.book
