use Rattle.std.proofs.Common.{◌≡◌, length}
use Rattle.op_core.specs.Loops.Index.{books_left}
use Rattle.op_core.proofs.index.books.next_book.Given as goal

abbrev pub invariant-chapters : goal.invariant-chapters
invariant-chapters l = books_left l.last l.chapters ≡ books_left l.last l.left

abbrev pub decreases-chapters : goal.decreases-chapters
decreases-chapters l = length l.left
