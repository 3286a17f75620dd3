use Rattle.std.proofs.Common.{◌≡◌, ◌++◌, filter}
use Rattle.op_core.specs.Lists.{books_of}
use Rattle.book_folder.specs.Exports.{is_chosen}
use Rattle.book_folder.proofs.export.chosen_books.Given as goal

abbrev pub invariant-loop-book : goal.invariant-loop-book
invariant-loop-book l =
    l.books.items ++ filter (is_chosen l.named) l.book-iterator ≡ filter (is_chosen l.named) (books_of l.replica.held)
