use Rattle.std.proofs.Common.{◌≡◌, ◌++◌, length, map}
use Rattle.book_folder.specs.Files.{files_view}
use Rattle.book_folder.specs.Naming as naming
use Rattle.book_folder.proofs.names.push_files.Given as goal

abbrev pub invariant-files : goal.invariant-files
invariant-files l =
    map naming.book_name_view l.names.items ++ map naming.named_file (files_view l.left)
    ≡ map naming.book_name_view l.fn.names.items ++ map naming.named_file (files_view l.files)

abbrev pub decreases-files : goal.decreases-files
decreases-files l = length l.left
