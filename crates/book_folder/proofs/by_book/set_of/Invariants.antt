use Rattle.std.proofs.Common.{◌≡◌, ◌||◌, ℕ, List, length}
use Rattle.std.specs.BTreeSet.{contains}
use Rattle.usfm_ref.specs.Books.{book_cmp}
use Rattle.book_folder.specs.Files.{is_one_of}
use Rattle.book_folder.proofs.by_book.set_of.Given as goal

abbrev pub invariant-books : goal.invariant-books
invariant-books l =
    (q : List ℕ) → (contains book_cmp l.set q || is_one_of l.left q) ≡ is_one_of l.books q

abbrev pub decreases-books : goal.decreases-books
decreases-books l = length l.left
