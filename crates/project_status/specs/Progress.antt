-- How far the chapters of a book are written, by a versification (this project's own rule).
use Rattle.std.specs.Prelude.{ℕ, zero, suc, ◌+◌, ◌==◌, max, nat_le, nat_eq, Bool, not, ◌&&◌, List, [], ◌∷◌, ◌++◌, filter, codes, if◌then◌else◌}
use Rattle.std.specs.List.{list_any, flat_map}
use Rattle.std.specs.Fmt.{decimal}
use Rattle.op_core.specs.Ops.{Operation}
use Rattle.versification.specs.Versifications.{Verses, last_verse_or_0, is_verse}
use Rattle.project_status.specs.declared.chapters.Chapter.{Chapter}
use Rattle.project_status.specs.declared.verses.Verse.{Verse}
use Rattle.project_status.specs.Verses.{verses_of}

-- whether the verse is written and has the number
abbrev pub writes : ℕ → Verse → Bool
writes n v = v.written && (nat_le v.first n && nat_le n v.last)

-- the greatest number of the verses, 0 where there is none
abbrev pub greatest : List Verse → ℕ
greatest [] = 0
greatest (v ∷ vs) = max v.last (greatest vs)

-- how many of the numbers from 1 to n pass
unfoldable pub count_to : ℕ → (ℕ → Bool) → ℕ
count_to zero p = 0
count_to (suc n) p = count_to n p + (if p (suc n) then 1 else 0)

-- how many of the numbers from 1 to the greatest are written in one of the verses; a number with
-- several parts, such as 3a and 3b, counts once, and a bridge counts for each of its numbers
abbrev pub count_written : List Verse → ℕ
count_written vs = count_to (greatest vs) (λ n. list_any (writes n) vs)

-- the verses of a chapter
abbrev pub in_chapter : ℕ → List Verse → List Verse
in_chapter c vs = filter (λ v. v.chapter == c) vs

-- whether the versification has a chapter
abbrev pub has_chapter : Verses → List ℕ → ℕ → Bool
has_chapter v book c = not (last_verse_or_0 v book c == 0)

-- whether verse n of the versification is written in one of the verses
abbrev pub is_done : Verses → List ℕ → ℕ → List Verse → ℕ → Bool
is_done v book c vs n = is_verse v book c n && list_any (writes n) vs

-- a chapter by the versification: how many verses that has there, and how many of these are written
abbrev pub chapter_by_verses : Verses → List ℕ → ℕ → List Verse → Chapter
chapter_by_verses v book c vs = record {
  chapter = c;
  written = count_to 999 (is_done v book c vs);
  verses = count_to 999 (is_verse v book c);
}

-- a chapter by the greatest number of its verses; none where there is no verse from 1 on
abbrev pub chapter_by_greatest : ℕ → List Verse → List Chapter
chapter_by_greatest c vs =
    if nat_eq (greatest vs) 0 then []
    else record { chapter = c; written = count_written vs; verses = greatest vs } ∷ []

-- the numbers below n, rising
unfoldable pub below : ℕ → List ℕ
below zero = []
below (suc n) = below n ++ n ∷ []

-- the chapter of these verses: by the versification, whether it is begun or not, or where that does
-- not have the chapter, by the greatest number
abbrev pub chapter_of : Verses → List ℕ → ℕ → List Verse → List Chapter
chapter_of v book c vs =
    if has_chapter v book c then chapter_by_verses v book c vs ∷ [] else chapter_by_greatest c vs

-- the chapters of a book, rising
abbrev pub chapters_of : Verses → List Operation → List ℕ → List Chapter
chapters_of v held book =
    flat_map (λ c. chapter_of v book c (in_chapter c (verses_of held book))) (below 1000)

-- the line of a chapter: the book's code, the chapter, how many of its verses are written, `of`,
-- and how many there are
abbrev pub progress_line : List ℕ → Chapter → List ℕ
progress_line book c =
    book ++ 32 ∷ (decimal c.chapter ++ 32 ∷
    (decimal c.written ++ codes " of " ++ decimal c.verses ++ 10 ∷ []))

-- the lines of a book's chapters
abbrev pub book_progress : Verses → List Operation → List ℕ → List ℕ
book_progress v held book = flat_map (progress_line book) (chapters_of v held book)
