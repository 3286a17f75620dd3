use Rattle.std.proofs.Common.{◌≡◌, length}
use Rattle.std.specs.List.{list_all}
use Rattle.op_core.specs.Export.{has_book}
use Rattle.book_folder.proofs.export.has_books.Given as goal

abbrev pub invariant-books : goal.invariant-books
invariant-books l =
    list_all (has_book l.replica.held) l.left ≡ list_all (has_book l.replica.held) l.books

abbrev pub decreases-books : goal.decreases-books
decreases-books l = length l.left
