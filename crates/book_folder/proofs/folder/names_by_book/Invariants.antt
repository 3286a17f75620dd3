use Rattle.std.proofs.Common.{◌≡◌, ◌++◌, List, length, map}
use Rattle.book_folder.specs.ByBook.{HasFirsts}
use Rattle.book_folder.specs.Wanted.{named_view}
use Rattle.book_folder.specs.declared.seen.Named.{Named}
use Rattle.book_folder.proofs.folder.names_by_book.Given as goal

abbrev pub invariant-names : goal.invariant-names
invariant-names l =
    (after : List Named) × (l.left ++ after ≡ l.names)
    × HasFirsts (λ n. named_view n.now) (λ n. n.book) (map named_view after) l.firsts

abbrev pub decreases-names : goal.decreases-names
decreases-names l = length l.left
