-- The lines of a versification: the form of Paratext's `.vrs` files. What a line's words are, and
-- that a book's chapters stand in turn from the first, is this project's own rule.
use Rattle.std.specs.Prelude.{ℕ, ◌+◌, ◌==◌, Bool, false, not, ◌||◌, List, [], ◌∷◌, length, take, drop, filter, Option, None, Some, option_map, if◌then◌else◌}
use Rattle.std.specs.List.{list_any, prefix_len, slice_split}
use Rattle.usfm_ref.specs.Books.{is_book_code, same_bytes}
use Rattle.usfm_ref.specs.Numbers.{is_blank, are_digits, number_of}
use Rattle.usfm_ref.specs.Segments.{segment}
use Rattle.usfm_ref.specs.declared.key.Place.TheVariants.{Verse}
use Rattle.usfm_ref.specs.declared.segment.Segment.{Segment}

-- what a line says: nothing that is read here; of a book the last verse of each chapter, from the
-- first on; or a verse that is left out
pub data Said : Type 0 where
  passed : Said
  last_of : List ℕ → List ℕ → Said
  without : Segment → Said

-- ---- words

-- the words of a line: what stands between blanks
unfoldable pub words_of : List ℕ → List (List ℕ)
words_of line = filter (λ word. not (length word == 0)) (slice_split is_blank line)

-- a word that begins a comment with `#` (35), or the segments of a verse with `*` (42)
abbrev pub is_passed : List ℕ → Bool
is_passed [] = false
is_passed (b ∷ bs) = b == 35 || b == 42

-- the word `=` (61), which stands in a mapping
abbrev pub is_equals : List ℕ → Bool
is_equals word = same_bytes word (61 ∷ [])

-- the number 0 to 999 that one to three digits write
abbrev pub number_in : List ℕ → Option ℕ
number_in bytes = if are_digits bytes then Some (number_of bytes) else None

-- how many bytes come before the first colon (58), or the end
abbrev pub before_colon : List ℕ → ℕ
before_colon word = prefix_len (λ b. not (b == 58)) word

-- two numbers, if both are there
abbrev pub both : Option ℕ → Option ℕ → Option (ℕ × ℕ)
both None b = None
both (Some a) None = None
both (Some a) (Some b) = Some (a, b)

-- the chapter and the verse that a word has on either side of a colon
abbrev pub verse_in : List ℕ → Option (ℕ × ℕ)
verse_in word =
    let at = before_colon word in both (number_in (take at word)) (number_in (drop (at + 1) word))

-- the book whose code a word is
abbrev pub book_in : List ℕ → Option (List ℕ)
book_in word = if is_book_code word then Some word else None

-- ---- lines

-- the verse of a chapter, if it is of the chapter that comes next
abbrev pub verse_of : ℕ → Option (ℕ × ℕ) → Option ℕ
verse_of chapter None = None
verse_of chapter (Some r) = if r.0 == chapter then Some r.1 else None

-- a verse before others, if all are there
abbrev pub onto : Option ℕ → Option (List ℕ) → Option (List ℕ)
onto None later = None
onto (Some verse) later = option_map (λ verses. verse ∷ verses) later

-- the last verses of chapters, where the words are of this chapter and those after it in turn
abbrev pub verses_from : ℕ → List (List ℕ) → Option (List ℕ)
verses_from chapter [] = Some []
verses_from chapter (word ∷ words) =
    onto (verse_of chapter (verse_in word)) (verses_from (chapter + 1) words)

-- the last verses of a book, one at least
abbrev pub last_of_book : Option (List ℕ) → List (List ℕ) → Option Said
last_of_book None words = None
last_of_book (Some book) [] = None
last_of_book (Some book) (word ∷ words) = option_map (last_of book) (verses_from 1 (word ∷ words))

-- a book's code, and after it the last verse of each chapter
abbrev pub last_verses : List ℕ → List (List ℕ) → Option Said
last_verses code words = last_of_book (book_in code) words

-- a verse of a book that is left out
abbrev pub without_verse : List ℕ → ℕ × ℕ → Said
without_verse book r =
    without (segment book (record { chapter = r.0; place = Verse r.1 None }))

-- the same, if there are a book and one word, which is a chapter and a verse
abbrev pub left_out_of : Option (List ℕ) → List (List ℕ) → Option Said
left_out_of None words = None
left_out_of (Some book) [] = None
left_out_of (Some book) (word ∷ []) = option_map (without_verse book) (verse_in word)
left_out_of (Some book) (word ∷ other ∷ words) = None

-- after `-` a book's code, and the verse that is left out
abbrev pub left_out : List ℕ → List (List ℕ) → Option Said
left_out code words = left_out_of (book_in code) words

-- a line that is passed over by none of its words: with `-` (45) at its front it leaves out a verse
abbrev pub read_by : List ℕ → List (List ℕ) → Option Said
read_by [] words = last_verses [] words
read_by (b ∷ bs) words = if b == 45 then left_out bs words else last_verses (b ∷ bs) words

-- what a line of these words says, if it has one of the forms
abbrev pub said_by : List (List ℕ) → Option Said
said_by [] = Some passed
said_by (first ∷ more) =
    if is_passed first || list_any is_equals (first ∷ more) then Some passed
    else read_by first more

-- what a line says, if it has one of the forms
abbrev pub line_of : List ℕ → Option Said
line_of line = said_by (words_of line)
