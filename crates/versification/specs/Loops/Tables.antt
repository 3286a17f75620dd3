-- What is kept of a versification's lines while they are read.
use Rattle.std.specs.Prelude.{◌≡◌, ℕ, Bool, ◌||◌, List, [], Option, None, Some, option_map, Vec}
use Rattle.std.specs.BTreeMap.{BTreeMap, get}
use Rattle.std.specs.BTreeSet.{BTreeSet, contains}
use Rattle.std.specs.Global.{Global}
use Rattle.std.specs.Option.{option_or}
use Rattle.usfm_ref.specs.Books.{book_cmp}
use Rattle.usfm_ref.specs.Segments.{segment_cmp}
use Rattle.usfm_ref.specs.declared.segment.Segment.{Segment}
use Rattle.versification.specs.Lines.{Said}
use Rattle.versification.specs.Versifications.{said_in, verses_said, says_without}

-- the verses of books
abbrev pub Books : Type 0
Books = BTreeMap (List ℕ) (Vec ℕ Global)

-- the last verses of a book, if it is there
abbrev pub under : Books → List ℕ → Option (List ℕ)
under books book = option_map (λ v. v.items) (get book_cmp books book)

-- whether a verse is among those that are left out
abbrev pub has : BTreeSet Segment → Segment → Bool
has left_out g = contains segment_cmp left_out g

-- each book's verses are those that a line has, or else what they were
abbrev pub TakesBooks : Books → Option Said → Books → Type 0
TakesBooks before said after =
    (book : List ℕ) → under after book ≡ option_or (verses_said book said) (under before book)

-- what is left out is what was, and what a line leaves out
abbrev pub TakesOut : BTreeSet Segment → Option Said → BTreeSet Segment → Type 0
TakesOut before said after =
    (g : Segment) → has after g ≡ (says_without g said || has before g)

-- what the lines say that are left, of which there may be none
abbrev pub said_left : Option (List ℕ) → List (Option Said)
said_left None = []
said_left (Some bytes) = said_in bytes
