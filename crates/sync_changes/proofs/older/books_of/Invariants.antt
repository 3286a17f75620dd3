use Rattle.std.proofs.Common.{◌≡◌, ℕ, ◌||◌, List}
use Rattle.std.specs.BTreeSet.{contains}
use Rattle.usfm_ref.specs.Books.{book_cmp}
use Rattle.op_core.specs.Export.{has_book}
use Rattle.sync_changes.proofs.older.books_of.Given as goal

-- the books so far, and those of what is left
abbrev pub invariant-loop-op : goal.invariant-loop-op
invariant-loop-op l =
    (q : List ℕ) → (contains book_cmp l.books q || has_book l.op-iterator q) ≡ has_book l.bundle q
