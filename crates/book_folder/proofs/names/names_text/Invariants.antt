use Rattle.std.proofs.Common.{◌≡◌, ◌++◌, length, map}
use Rattle.std.specs.List.{flat_map}
use Rattle.book_folder.specs.Naming as naming
use Rattle.book_folder.proofs.names.names_text.Given as goal

abbrev pub invariant-names : goal.invariant-names
invariant-names l =
    l.text.items ++ flat_map naming.name_line (map naming.book_name_view l.left)
    ≡ naming.names_text (map naming.book_name_view l.names)

abbrev pub decreases-names : goal.decreases-names
decreases-names l = length l.left
