use Rattle.std.proofs.Common.{◌≡◌, length}
use Rattle.book_folder.specs.Loops.{files_left}
use Rattle.book_folder.proofs.files.BookFilesIterator.next.Given as goal

abbrev pub invariant-found : goal.invariant-found
invariant-found l = files_left l.self ≡ files_left l.fn.self

abbrev pub decreases-found : goal.decreases-found
decreases-found l = length l.self.left.now
