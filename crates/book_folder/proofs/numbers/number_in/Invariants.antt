use Rattle.std.proofs.Common.{◌≡◌, length, map}
use Rattle.book_folder.specs.Naming as naming
use Rattle.book_folder.proofs.numbers.number_in.Given as goal

abbrev pub invariant-numbers : goal.invariant-numbers
invariant-numbers l =
    naming.number_in (map naming.numbered_view l.left) l.fn.book
    ≡ naming.number_in (map naming.numbered_view l.table) l.fn.book

abbrev pub decreases-numbers : goal.decreases-numbers
decreases-numbers l = length l.left
