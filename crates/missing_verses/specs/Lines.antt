-- The lines that say what of a book is missing (this project's own rule).
use Rattle.std.specs.Prelude.{ℕ, zero, suc, ◌+◌, nat_eq, Bool, false, not, ◌&&◌, List, [], ◌∷◌, ◌++◌, length, slice_index_or, codes, if◌then◌else◌}
use Rattle.std.specs.List.{flat_map, list_any}
use Rattle.std.specs.Fmt.{decimal}
use Rattle.usfm_ref.specs.References.{ref_text}
use Rattle.verse_cut.specs.Pieces.{PieceParts, pieces_of}
use Rattle.versification.specs.Versifications.{Verses}
use Rattle.covered_verses.specs.declared.covered.Covered.{Covered}
use Rattle.missing_verses.specs.Numbers.{of_chapter, covered_in, covers_of, is_missing, exceeds, is_doubled, below, flags}

-- ---- runs

-- whether the flag of a number is set
abbrev pub is_set : List Bool → ℕ → Bool
is_set fs n = slice_index_or fs n false

-- where the flags begin that are set up to n, one after another
abbrev pub first_of : List Bool → ℕ → ℕ
first_of fs zero = zero
first_of fs (suc n) = if is_set fs n then first_of fs n else suc n

-- a word, and the verses of a chapter from the first to the last
abbrev pub verses_line : List ℕ → List ℕ → ℕ → ℕ → ℕ → List ℕ
verses_line word book c first last =
    word ++ (32 ∷ (book ++ (32 ∷ (decimal c ++ (58 ∷ (decimal first
    ++ ((if nat_eq first last then [] else 45 ∷ decimal last) ++ 10 ∷ [])))))))

-- the line of the flags that are set one after another, if n is the last of them
abbrev pub run_line : List ℕ → List ℕ → ℕ → List Bool → ℕ → List ℕ
run_line word book c fs n =
    if is_set fs n && not (is_set fs (n + 1)) then verses_line word book c (first_of fs n) n else []

-- a line for each of the longest runs of flags that are set
abbrev pub run_lines : List ℕ → List ℕ → ℕ → List Bool → List ℕ
run_lines word book c fs = flat_map (run_line word book c fs) (below (length fs))

-- ---- single verses

-- the line of verse n, if its flag is set
abbrev pub verse_line : List ℕ → List ℕ → ℕ → List Bool → ℕ → List ℕ
verse_line word book c fs n = if is_set fs n then verses_line word book c n n else []

-- a line for each flag that is set
abbrev pub verse_lines : List ℕ → List ℕ → ℕ → List Bool → List ℕ
verse_lines word book c fs = flat_map (verse_line word book c fs) (below (length fs))

-- ---- chapters

-- whether a flag is set
abbrev pub is_any : List Bool → Bool
is_any fs = list_any (λ b. b) fs

-- a chapter of which there is nothing, if a verse of it is missing
abbrev pub chapter_line : List ℕ → ℕ → List Bool → List ℕ
chapter_line book c fs =
    if is_any fs then codes "missing " ++ (book ++ (32 ∷ (decimal c ++ 10 ∷ []))) else []

-- the verses that are missing of a chapter with these pieces; the chapter, where it has none
abbrev pub missing_lines : List ℕ → ℕ → List PieceParts → List Bool → List ℕ
missing_lines book c [] fs = chapter_line book c fs
missing_lines book c (p ∷ ps) fs = run_lines (codes "missing") book c fs

-- a word and the reference of a piece, if what the piece covers passes
abbrev pub segment_line : List ℕ → (Covered → Bool) → List ℕ → PieceParts → List ℕ
segment_line word passes book p =
    if list_any passes (covered_in p) then word ++ (32 ∷ (ref_text book p.key ++ 10 ∷ [])) else []

-- the line of a piece with a verse that the versification does not have
abbrev pub beyond_line : Verses → List ℕ → ℕ → PieceParts → List ℕ
beyond_line v book c p = segment_line (codes "beyond") (exceeds v book c) book p

-- the line of a piece whose verse has no words
abbrev pub empty_line : List ℕ → PieceParts → List ℕ
empty_line book p = segment_line (codes "empty") (λ one. not one.written) book p

-- The lines of a chapter with these pieces: the verses that are missing, the segments beyond the
-- versification, the verses that are there twice, and the segments without words.
abbrev pub lines_of : Verses → List ℕ → ℕ → List PieceParts → List ℕ
lines_of v book c ps =
    missing_lines book c ps (flags (is_missing v book c (covers_of ps)))
    ++ (flat_map (beyond_line v book c) ps
    ++ (verse_lines (codes "twice") book c (flags (is_doubled (covers_of ps)))
    ++ flat_map (empty_line book) ps))

-- the lines of a chapter of a book's text
abbrev pub chapter_lines : Verses → List ℕ → List ℕ → ℕ → List ℕ
chapter_lines v book text c = lines_of v book c (of_chapter c (pieces_of text))

-- whether there is nothing of a book
abbrev pub is_absent : List ℕ → Bool
is_absent text = nat_eq (length text) 0

-- the lines of a book's text, chapter by chapter; none where there is nothing of the book
abbrev pub book_lines : Verses → List ℕ → List ℕ → List ℕ
book_lines v book text =
    if is_absent text then [] else flat_map (chapter_lines v book text) (below 1000)
