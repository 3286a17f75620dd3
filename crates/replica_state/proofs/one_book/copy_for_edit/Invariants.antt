use Rattle.std.proofs.Common.{◌≡◌, ◌==◌, ◌||◌, ◌++◌, filter}
use Rattle.op_core.specs.Export.{of_book}
use Rattle.op_core.specs.OneBook.{ops_for_edit}
use Rattle.replica_state.proofs.one_book.copy_for_edit.Given as goal

abbrev pub invariant-loop-view : goal.invariant-loop-view
invariant-loop-view l =
    l.ops.items ++ filter (λ o. of_book l.book o || o.id.number == l.greatest) l.view-iterator ≡ ops_for_edit l.bundle l.book
