-- When nothing of a book is missing (this project's own rule).
use Rattle.std.specs.Prelude.{◌≡◌, ◌↔◌, ◌<◌, ◌≤◌, ℕ, true, false, List, [], length}
use Rattle.std.specs.List.{AllByRecursion}
use Rattle.verse_cut.specs.Pieces.{pieces_of}
use Rattle.versification.specs.Versifications.{Verses, is_verse}
use Rattle.missing_verses.specs.Numbers.{of_chapter, covers_of, is_there, is_twice}
use Rattle.missing_verses.specs.Lines.{book_lines}

-- Of a chapter each verse is there that the versification has, and no other from 1 on; none is there
-- twice; and each segment has words.
pub record IsWhole (v : Verses) (book : List ℕ) (text : List ℕ) (c : ℕ) : Type 0 where
  pub there : (n : ℕ) → 1 ≤ n → n < 1000
      → is_there n (covers_of (of_chapter c (pieces_of text))) ≡ is_verse v book c n
  pub once : (n : ℕ) → 1 ≤ n → n < 1000
      → is_twice n (covers_of (of_chapter c (pieces_of text))) ≡ false
  pub written : AllByRecursion (λ w. w.written ≡ true) (covers_of (of_chapter c (pieces_of text)))

-- Of a book that the versification has, and of which there is something, nothing is listed exactly
-- where each chapter is whole.
abbrev pub NothingIsMissing : Type 0
NothingIsMissing = (v : Verses) (book text : List ℕ) → 0 < length (v.last_verses book)
    → 0 < length text → (book_lines v book text ≡ []) ↔ ((c : ℕ) → c < 1000 → IsWhole v book text c)
