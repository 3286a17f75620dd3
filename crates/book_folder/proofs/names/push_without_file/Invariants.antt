use Rattle.std.proofs.Common.{◌≡◌, ◌++◌, length, map}
use Rattle.book_folder.specs.Files.{files_view}
use Rattle.book_folder.specs.Naming as naming
use Rattle.book_folder.specs.Wanted.{named_view}
use Rattle.book_folder.proofs.names.push_without_file.Given as goal

abbrev pub invariant-names : goal.invariant-names
invariant-names l =
    map naming.book_name_view l.names.items
    ++ naming.without_file (files_view l.folder.files.now) (map named_view l.left)
    ≡ map naming.book_name_view l.fn.names.items
    ++ naming.without_file (files_view l.folder.files.now) (map named_view l.folder.seen.names.now)

abbrev pub decreases-names : goal.decreases-names
decreases-names l = length l.left
