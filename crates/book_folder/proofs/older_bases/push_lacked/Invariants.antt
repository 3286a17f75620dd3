use Rattle.std.proofs.Common.{◌≡◌, ◌++◌}
use Rattle.book_folder.specs.OlderBases.{lacked_books}
use Rattle.book_folder.proofs.older_bases.push_lacked.Given as goal

abbrev pub invariant-loop-op : goal.invariant-loop-op
invariant-loop-op l =
    (l.cursor ≡ l.held)
    × (l.books.items ++ lacked_books l.held l.op-iterator ≡ l.fn.books.items ++ lacked_books l.held l.ops)
