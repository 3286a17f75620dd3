use Rattle.std.proofs.Common.{◌≡◌, ◌++◌, List, length}
use Rattle.book_folder.specs.ByBook.{HasFirsts}
use Rattle.book_folder.specs.Files.{file_view, files_view}
use Rattle.book_folder.specs.Folder.{AreTwins}
use Rattle.book_folder.specs.declared.files.BookFile.{BookFile}
use Rattle.book_folder.proofs.folder.files_by_book.Given as goal

abbrev pub invariant-files : goal.invariant-files
invariant-files l =
    (after : List BookFile) × (l.left ++ after ≡ l.files)
    × HasFirsts (λ f. file_view f.now) (λ f. f.book) (files_view after) l.firsts × AreTwins (files_view after) l.twins

abbrev pub decreases-files : goal.decreases-files
decreases-files l = length l.left
