-- What of a text belongs to the mark directly before it, and is no part of the words.
--
-- The USFM 3.0 documentation has a blank after each mark that opens, the number after `\v` and
-- `\c`, and after the mark of a note the sign of its caller, of which '+' is a caller that is made
-- when the book is printed and '-' is none. That more blanks than one belong to the mark, that any
-- other sign of a caller is shown among the note's words, and that a number after `\c` has the form
-- of one after `\v`, is this project's own rule.
use Rattle.sty_sheet.specs.declared.kind.StyleKind.{StyleKind}
use Rattle.std.specs.Prelude.{ℕ, ◌+◌, ◌==◌, Bool, true, ◌&&◌, ◌||◌, List, [], ◌∷◌, take, drop, codes}
use Rattle.std.specs.Prelude.{Option, None, Some, if◌then◌else◌}
use Rattle.std.specs.List.{prefix_len}
use Rattle.std.specs.Str.{bytes_eq}
use Rattle.usfm_ref.specs.Numbers.{is_blank, verse_in}
use Rattle.usfm_ref.specs.declared.number.VerseMark.{VerseMark}
use Rattle.usfm_tree.specs.Reading.{is_note_kind}
use Rattle.book_reading.specs.declared.lead.Lead.{Lead}
use Rattle.book_reading.specs.declared.lead.Lead.TheVariants as leads
use Rattle.book_reading.specs.declared.run.Sort.{Sort}
use Rattle.book_reading.specs.declared.run.Sort.TheVariants as sorts

-- after a mark of this name that the sheet knows
abbrev pub named_lead : List ℕ → Lead
named_lead name =
    if bytes_eq name (codes "v") then leads.Verse
    else if bytes_eq name (codes "c") then leads.Chapter
    else leads.Blanks

-- after a mark that begins a node
abbrev pub node_lead : StyleKind → List ℕ → Lead
node_lead kind name = if is_note_kind kind then leads.Sign else named_lead name

-- what the number is
abbrev pub number_sort : Lead → Sort
number_sort leads.Nothing = sorts.Verse
number_sort leads.Blanks = sorts.Verse
number_sort leads.Sign = sorts.Verse
number_sort leads.Verse = sorts.Verse
number_sort leads.Chapter = sorts.Chapter

-- how many blanks are at the front
abbrev pub blank_length : List ℕ → ℕ
blank_length bytes = prefix_len is_blank bytes

-- the blanks at the front
abbrev pub blanks_of : List ℕ → List ℕ
blanks_of bytes = take (blank_length bytes) bytes

-- what follows them
abbrev pub after_blanks : List ℕ → List ℕ
after_blanks bytes = drop (blank_length bytes) bytes

-- the bytes of a verse's number with its bridge, and of the blanks before them
abbrev pub verse_length : Option VerseMark → ℕ
verse_length None = 0
verse_length (Some v) = v.length

-- the bytes of the number at the front of a text, and of the blanks before it
abbrev pub number_length : Lead → List ℕ → ℕ
number_length leads.Nothing bytes = 0
number_length leads.Blanks bytes = 0
number_length leads.Sign bytes = 0
number_length leads.Verse bytes = verse_length (verse_in bytes)
number_length leads.Chapter bytes = verse_length (verse_in bytes)

-- whether a word ends before these bytes
abbrev pub ends_word : List ℕ → Bool
ends_word [] = true
ends_word (b ∷ bytes) = is_blank b

-- the bytes of the sign '+' (43) or '-' (45) at the front, if it is a word, and of the blanks
-- after it
abbrev pub sign_length : List ℕ → ℕ
sign_length [] = 0
sign_length (b ∷ bytes) =
    if (b == 43 || b == 45) && ends_word bytes then 1 + blank_length bytes else 0

-- the bytes at the front of a text, after its number, that belong to the mark before it
abbrev pub gap_length : Lead → List ℕ → ℕ
gap_length leads.Nothing bytes = 0
gap_length leads.Blanks bytes = blank_length bytes
gap_length leads.Sign bytes = blank_length bytes + sign_length (after_blanks bytes)
gap_length leads.Verse bytes = blank_length bytes
gap_length leads.Chapter bytes = blank_length bytes
