use Rattle.std.proofs.Common.{◌≡◌, ◌++◌, length, map}
use Rattle.book_folder.specs.Naming as naming
use Rattle.book_folder.proofs.names.books_in.Given as goal

abbrev pub invariant-names : goal.invariant-names
invariant-names l =
    l.books.items ++ map (λ n. n.book) (map naming.book_name_view l.left)
    ≡ map (λ n. n.book) (map naming.book_name_view l.names)

abbrev pub decreases-names : goal.decreases-names
decreases-names l = length l.left
