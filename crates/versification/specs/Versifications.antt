-- The versification that a file has: of each book the verses of the last line that has them, and
-- the verses that its lines leave out (Paratext's `.vrs` files; that the last line of a book counts
-- is this project's own rule).
use Rattle.std.specs.Prelude.{ℕ, ◌+◌, ◌-◌, ◌==◌, nat_le, Bool, true, false, not, ◌&&◌, List, [], ◌∷◌, map, take, drop, slice_get, Option, None, Some, Result, Ok, Err, if◌then◌else◌}
use Rattle.std.specs.List.{flat_map, list_any, position, slice_split}
use Rattle.std.specs.Option.{option_map, option_or, unwrap_or}
use Rattle.usfm_ref.specs.Books.{same_bytes}
use Rattle.usfm_ref.specs.Segments.{same_segment, segment}
use Rattle.usfm_ref.specs.declared.key.Place.TheVariants.{Verse}
use Rattle.usfm_ref.specs.declared.segment.Segment.{Segment}
use Rattle.versification.specs.Lines.{Said, passed, last_of, without, line_of}
use Rattle.versification.specs.declared.fault.VersificationFault.{VersificationFault}
use Rattle.versification.specs.declared.fault.VersificationFault.TheVariants.{BadLine}

-- ---- the lines of a file

-- what comes after a U+FEFF, if one is at the front, and else all
abbrev pub after_feff : List ℕ → List ℕ
after_feff bytes = if same_bytes (take 3 bytes) (239 ∷ 187 ∷ 191 ∷ []) then drop 3 bytes else bytes

-- what the lines of bytes say, which line feeds (10) divide; none of a line that has none of the
-- forms
abbrev pub said_in : List ℕ → List (Option Said)
said_in bytes = map line_of (slice_split (λ b. b == 10) bytes)

-- what the lines of a file say
unfoldable pub said_of : List ℕ → List (Option Said)
said_of file = said_in (after_feff file)

-- whether a line has none of the forms
abbrev pub is_bad : Option Said → Bool
is_bad None = true
is_bad (Some said) = false

-- the number of the first line that has none of the forms, counted from 1
abbrev pub bad_line : List (Option Said) → Option ℕ
bad_line said = option_map (λ place. place + 1) (position is_bad said)

-- ---- what they say together

-- the last verses of a book, if a line has them
abbrev pub verses_said : List ℕ → Option Said → Option (List ℕ)
verses_said book None = None
verses_said book (Some passed) = None
verses_said book (Some (last_of other verses)) = if same_bytes other book then Some verses else None
verses_said book (Some (without s)) = None

-- the last verses of a book of the last line that has them
abbrev pub latest : List (Option Said) → List ℕ → Option (List ℕ)
latest [] book = None
latest (s ∷ later) book = option_or (latest later book) (verses_said book s)

-- whether a line leaves out the verse of a segment
abbrev pub says_without : Segment → Option Said → Bool
says_without g None = false
says_without g (Some passed) = false
says_without g (Some (last_of book verses)) = false
says_without g (Some (without s)) = same_segment s g

-- whether one of the lines does
abbrev pub leaves_out : List (Option Said) → Segment → Bool
leaves_out said g = list_any (says_without g) said

-- the book of a line that has its last verses
abbrev pub book_said : Option Said → List (List ℕ)
book_said None = []
book_said (Some passed) = []
book_said (Some (last_of book verses)) = book ∷ []
book_said (Some (without s)) = []

-- A versification: its books in the order of their lines, one as often as it has a line; the last
-- verse of each chapter of a book, from chapter 1 on, none of a book that it does not have; and
-- which verses it leaves out.
pub record Verses : Type 0 where
  pub books : List (List ℕ)
  pub last_verses : List ℕ → List ℕ
  pub leaves_out : Segment → Bool

-- what some lines say together
abbrev pub verses_by : List (Option Said) → Verses
verses_by said = record {
  books = flat_map book_said said;
  last_verses = λ book. unwrap_or (latest said book) [];
  leaves_out = leaves_out said;
}

-- the versification of some lines, or the fault of the first that has none of the forms
abbrev pub versification_by : Option ℕ → List (Option Said) → Result Verses VersificationFault
versification_by None said = Ok (verses_by said)
versification_by (Some line) said = Err (BadLine line)

-- the versification that a file has, or the fault of the first line that has none of the forms
abbrev pub versification_of : List ℕ → Result Verses VersificationFault
versification_of file = versification_by (bad_line (said_of file)) (said_of file)

-- ---- what is asked of it

-- the last verse of a chapter, if the book has that chapter
abbrev pub last_verse : Verses → List ℕ → ℕ → Option ℕ
last_verse v book chapter =
    if chapter == 0 then None else slice_get (v.last_verses book) (chapter - 1)

-- whether a verse of a book is left out
abbrev pub is_left_out : Verses → List ℕ → ℕ → ℕ → Bool
is_left_out v book chapter verse =
    v.leaves_out (segment book (record { chapter = chapter; place = Verse verse None }))

-- the last verse of a chapter, 0 where the book does not have that chapter
abbrev pub last_verse_or_0 : Verses → List ℕ → ℕ → ℕ
last_verse_or_0 v book chapter = unwrap_or (last_verse v book chapter) 0

-- whether a verse is one of a chapter: from 1 to the chapter's last, unless it is left out
abbrev pub is_verse : Verses → List ℕ → ℕ → ℕ → Bool
is_verse v book chapter verse =
    nat_le 1 verse && nat_le verse (last_verse_or_0 v book chapter)
    && not (is_left_out v book chapter verse)
