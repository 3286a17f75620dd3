-- The lines of paragraphs (this project's own rule).
--
-- How many columns a word takes in a terminal is the rule of the crate `unicode_width`, over Unicode
-- Standard Annex 11: a combining mark takes none, and a wide character two.
use Rattle.std.specs.Prelude.{ℕ, ◌-◌, nat_lt, Bool, true, false, List, [], ◌∷◌, ◌++◌, chars, if◌then◌else◌}
use Rattle.std.proofs.Math.ListN.{replicate}
use Rattle.unicode_width.specs.Width.{str_width}
use Rattle.sty_sheet.specs.Records.{words_of}
use Rattle.book_reading.specs.Readings.{RunParts}
use Rattle.plain_reading.specs.Paragraphs.{Paragraph, is_parted, after_empty, paragraphs_of}
use Rattle.plain_reading.specs.declared.setting.Group.{Group}
use Rattle.plain_reading.specs.declared.setting.Group.TheVariants.{Begin}
use Rattle.plain_reading.specs.declared.setting.Setting.{Setting}

-- the columns that a word takes
abbrev pub columns : List ℕ → ℕ
columns word = str_width false (chars word)

-- so many spaces (32)
abbrev pub spaces : ℕ → List ℕ
spaces n = replicate n 32

-- The words after a word in a line that has room for so many columns more: each goes on after a
-- space where it has room, and else on a line of its own, after the indent. A line ends with a line
-- feed (10).
abbrev pub lines_after : ℕ → ℕ → ℕ → List (List ℕ) → List ℕ
lines_after width later room [] = 10 ∷ []
lines_after width later room (w ∷ ws) =
    if nat_lt (columns w) room
    then 32 ∷ (w ++ lines_after width later (room - columns w - 1) ws)
    else 10 ∷ (spaces later
    ++ (w ++ lines_after width later (width - later - columns w) ws))

-- the lines of words that are set so; none of no words
abbrev pub lines_of : ℕ → Setting → List (List ℕ) → List ℕ
lines_of width s [] = []
lines_of width s (w ∷ ws) =
    spaces s.first ++ (w ++ lines_after width s.later (width - s.first - columns w) ws)

-- an empty line, if the groups ask for one
abbrev pub gap_between : Group → Group → List ℕ
gap_between last group = if is_parted last group then 10 ∷ [] else []

-- a paragraph of these words after one of a group: nothing if it has none
abbrev pub paragraph_text : ℕ → Group → Setting → List (List ℕ) → List ℕ
paragraph_text width last s [] = []
paragraph_text width last s (w ∷ ws) =
    gap_between last s.group ++ lines_of width s (w ∷ ws)

-- the group after it
abbrev pub group_after : Group → Setting → List (List ℕ) → Group
group_after last s [] = after_empty last s.group
group_after last s (w ∷ ws) = s.group

-- the text of paragraphs after one of a group
abbrev pub paragraphs_text : ℕ → Group → List Paragraph → List ℕ
paragraphs_text width last [] = []
paragraphs_text width last (p ∷ ps) =
    paragraph_text width last p.setting (words_of p.ink)
    ++ paragraphs_text width (group_after last p.setting (words_of p.ink)) ps

-- the plain text of runs, in lines of so many columns
unfoldable pub plain : ℕ → List RunParts → List ℕ
plain width rs = paragraphs_text width Begin (paragraphs_of rs)
