use Rattle.std.proofs.Common.{◌≡◌, length, map}
use Rattle.book_folder.specs.Naming as naming
use Rattle.book_folder.proofs.naming.after_a_code.Given as goal

abbrev pub invariant-numbers : goal.invariant-numbers
invariant-numbers l =
    naming.after_one (map naming.code_alone (map naming.numbered_view l.left)) l.name
    ≡ naming.after_one (map naming.code_alone (map naming.numbered_view l.table)) l.name

abbrev pub decreases-numbers : goal.decreases-numbers
decreases-numbers l = length l.left
