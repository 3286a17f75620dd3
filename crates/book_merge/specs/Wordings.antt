-- The wording of a text (this project's own rule): what is left of it where nobody sees a change,
-- once an editor has saved it with other line ends, with blanks at the ends of lines or without,
-- and with U+FEFF at its front or without.
use Rattle.std.specs.Prelude.{ℕ, Bool, true, ◌==◌, ◌&&◌, ◌||◌, List, [], ◌∷◌, if◌then◌else◌}
use Rattle.usfm_ref.specs.Books.{same_bytes}
use Rattle.verse_cut.specs.Reading.{after_bom, is_empty}

-- a space, a tab or a CR
abbrev pub is_line_blank : ℕ → Bool
is_line_blank b = b == 32 || b == 9 || b == 13

-- whether a line ends before some bytes: they begin with an LF, or there are none
abbrev pub ends_line : List ℕ → Bool
ends_line [] = true
ends_line (b ∷ rest) = b == 10

-- whether a byte before a wording says nothing: a blank where the line ends, or an LF where the
-- text ends
abbrev pub says_nothing : ℕ → List ℕ → Bool
says_nothing b later = (is_line_blank b && ends_line later) || (b == 10 && is_empty later)

-- a wording with a byte before it, unless that says nothing
abbrev pub with_byte : ℕ → List ℕ → List ℕ
with_byte b later = if says_nothing b later then later else b ∷ later

-- the wording of some bytes before a wording
unfoldable pub wording_before : List ℕ → List ℕ → List ℕ
wording_before [] later = later
wording_before (b ∷ rest) later = with_byte b (wording_before rest later)

-- the wording of a text: without U+FEFF at its front, without the blanks at the end of each line,
-- and without line ends at its end
abbrev pub wording_of : List ℕ → List ℕ
wording_of text = wording_before (after_bom text) []

-- whether two texts have one wording
abbrev pub same_wording : List ℕ → List ℕ → Bool
same_wording one other = same_bytes (wording_of one) (wording_of other)
