-- What belongs to books, in a map by their books, and sets of books.
use Rattle.std.specs.Prelude.{◌≡◌, ℕ, ◌||◌, List, Option, Some, option_map, if◌then◌else◌}
use Rattle.std.specs.BTreeMap.{BTreeMap, get}
use Rattle.std.specs.BTreeSet.{BTreeSet, contains}
use Rattle.std.specs.List.{find}
use Rattle.usfm_ref.specs.Books.{book_cmp, same_bytes}
use Rattle.book_folder.specs.Files.{is_one_of}

module _ {X : Type 0} where
  -- what is under a book
  abbrev pub under : BTreeMap (List ℕ) X → List ℕ → Option X
  under by_book book = get book_cmp by_book book

  -- under a book is what is put, and under each other one what was
  abbrev pub Puts : BTreeMap (List ℕ) X → List ℕ → X → BTreeMap (List ℕ) X → Type 0
  Puts before book value after =
      (q : List ℕ) →
      under after q ≡ (if same_bytes book q then Some value else under before q)

  -- under each book is the first of all that is of that book
  abbrev pub HasFirsts : {Y : Type 0} → (X → Y) → (Y → List ℕ) → List Y
      → BTreeMap (List ℕ) X → Type 0
  HasFirsts view book_of all by_book =
      (book : List ℕ) →
      option_map view (under by_book book) ≡ find (λ y. same_bytes (book_of y) book) all

-- a set has these books
abbrev pub HasBooks : List (List ℕ) → BTreeSet (List ℕ) → Type 0
HasBooks books set = (book : List ℕ) → contains book_cmp set book ≡ is_one_of books book

-- a set has one book more
abbrev pub AddsBook : BTreeSet (List ℕ) → List ℕ → BTreeSet (List ℕ) → Type 0
AddsBook before book after =
    (q : List ℕ) → contains book_cmp after q ≡ (same_bytes q book || contains book_cmp before q)
