use Rattle.std.proofs.Common.{◌≡◌, ◌++◌, length, map}
use Rattle.book_folder.specs.Naming as naming
use Rattle.book_folder.specs.Plans as plans
use Rattle.book_folder.proofs.names.push_new.Given as goal

abbrev pub invariant-files : goal.invariant-files
invariant-files l =
    map naming.book_name_view l.names.items ++ map plans.new_name_of (map plans.new_file_view l.left)
    ≡ map naming.book_name_view l.fn.names.items ++ map plans.new_name_of (map plans.new_file_view l.made)

abbrev pub decreases-files : goal.decreases-files
decreases-files l = length l.left
