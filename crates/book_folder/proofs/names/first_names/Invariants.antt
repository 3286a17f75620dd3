use Rattle.std.proofs.Common.{◌≡◌, ◌++◌, List, length, map}
use Rattle.book_folder.specs.ByBook.{HasFirsts}
use Rattle.book_folder.specs.Naming.{book_name_view}
use Rattle.book_folder.specs.declared.names.BookName.{BookName}
use Rattle.book_folder.proofs.names.first_names.Given as goal

abbrev pub invariant-names : goal.invariant-names
invariant-names l =
    (after : List BookName) × (l.left ++ after ≡ l.names)
    × HasFirsts (λ n. book_name_view n.now) (λ n. n.book) (map book_name_view after) l.firsts

abbrev pub decreases-names : goal.decreases-names
decreases-names l = length l.left
