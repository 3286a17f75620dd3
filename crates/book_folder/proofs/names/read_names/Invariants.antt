use Rattle.std.proofs.Common.{◌≡◌, ◌++◌, length, map}
use Rattle.book_folder.specs.Naming as naming
use Rattle.book_folder.specs.Wanted.{named_view}
use Rattle.book_folder.proofs.names.read_names.Given as goal

abbrev pub invariant-names : goal.invariant-names
invariant-names l =
    map named_view l.names.items ++ map naming.book_name_view l.left
    ≡ naming.in_order (map naming.book_name_view l.lines.items)

abbrev pub decreases-names : goal.decreases-names
decreases-names l = length l.left
