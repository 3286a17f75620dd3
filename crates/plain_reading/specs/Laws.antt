-- What holds of the plain text of all readings (this project's own rule).
use Rattle.std.specs.Prelude.{◌≡◌, ◌≤◌, ◌⊎◌, ℕ, ◌+◌, Bool, not, List, [], ◌∷◌, ◌++◌, filter}
use Rattle.std.specs.List.{flat_map}
use Rattle.usfm_ref.specs.Numbers.{is_blank}
use Rattle.book_reading.specs.Blocks.{notes_of}
use Rattle.book_reading.specs.Chapters.{chapters_of}
use Rattle.book_reading.specs.Readings.{RunParts}
use Rattle.plain_reading.specs.Lines.{columns, spaces, lines_of, plain}
use Rattle.plain_reading.specs.Paragraphs.{in_text, in_note}
use Rattle.plain_reading.specs.declared.setting.Setting.{Setting}

-- ---- nothing is left out

-- a byte of a word
abbrev pub is_ink : ℕ → Bool
is_ink b = not (is_blank b)

-- the bytes of words
abbrev pub inked : List ℕ → List ℕ
inked bytes = filter is_ink bytes

-- what is written of the runs of a chapter in the text, and then of those of its notes
abbrev pub chapter_ink : List RunParts → List ℕ
chapter_ink rs =
    flat_map in_text rs ++ flat_map (λ n. flat_map in_note n.runs) (notes_of rs)

-- Without blanks and line ends, the plain text is what is written of the runs, chapter by chapter.
abbrev pub NothingIsLeftOut : Type 0
NothingIsLeftOut = (width : ℕ) (rs : List RunParts)
    → inked (plain width rs) ≡ inked (flat_map chapter_ink (chapters_of rs))

-- ---- lines

-- a line: the columns of its indent, its first word, and the others
pub record Line : Type 0 where
  pub indent : ℕ
  pub first : List ℕ
  pub others : List (List ℕ)

-- words with a space (32) before each
abbrev pub spaced : List (List ℕ) → List ℕ
spaced ws = flat_map (λ w. 32 ∷ w) ws

-- the bytes of a line, up to its line feed (10)
abbrev pub line_text : Line → List ℕ
line_text l = spaces l.indent ++ (l.first ++ (spaced l.others ++ 10 ∷ []))

-- the columns of words with a space before each
abbrev pub spaced_columns : List (List ℕ) → ℕ
spaced_columns [] = 0
spaced_columns (w ∷ ws) = 1 + columns w + spaced_columns ws

-- a line has no more columns than the width, or one word alone
abbrev pub Fits : ℕ → Line → Type 0
Fits width l =
    (l.others ≡ []) ⊎ (l.indent + columns l.first + spaced_columns l.others ≤ width)

-- each line fits
abbrev pub AllFit : ℕ → List Line → Type 0
AllFit width [] = Unit {0}
AllFit width (l ∷ ls) = Fits width l × AllFit width ls

-- a text is lines that have these words in order, and each line fits
pub record AreLines (width : ℕ) (ws : List (List ℕ)) (text : List ℕ) : Type 0 where
  pub lines : List Line
  pub written : text ≡ flat_map line_text lines
  pub have_all : flat_map (λ l. l.first ∷ l.others) lines ≡ ws
  pub fit : AllFit width lines

-- The lines of words, however they are set, have all words in order, and each fits.
abbrev pub LinesFit : Type 0
LinesFit = (width : ℕ) (s : Setting) (ws : List (List ℕ)) → AreLines width ws (lines_of width s ws)
