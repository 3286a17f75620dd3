-- The paragraphs of a reading as plain text: how each is set, and what is written of its runs (this
-- project's own rule).
use Rattle.std.specs.Prelude.{ℕ, ◌+◌, ◌*◌, ◌==◌, nat_lt, Bool, true, false, not, ◌&&◌, List, [], ◌∷◌, ◌++◌, length, take, drop, map, codes}
use Rattle.std.specs.Prelude.{Option, None, Some, is_some, if◌then◌else◌}
use Rattle.std.specs.Fmt.{decimal}
use Rattle.std.specs.List.{flat_map, prefix_len}
use Rattle.std.specs.Str.{bytes_eq}
use Rattle.book_reading.specs.Blocks.{BlockParts, NoteParts, blocks_of, notes_of}
use Rattle.book_reading.specs.Chapters.{chapters_of}
use Rattle.book_reading.specs.Readings.{RunParts, is_caller, is_chapter}
use Rattle.book_reading.specs.declared.kind.BlockKind.{BlockKind}
use Rattle.book_reading.specs.declared.kind.BlockKind.TheVariants as blocks
use Rattle.book_reading.specs.declared.run.Sort.{Sort}
use Rattle.book_reading.specs.declared.run.Sort.TheVariants as sorts
use Rattle.plain_reading.specs.declared.setting.Group.{Group}
use Rattle.plain_reading.specs.declared.setting.Group.TheVariants as groups
use Rattle.plain_reading.specs.declared.setting.Setting.{Setting}

-- ---- how paragraphs are set

-- what tells groups apart; 0 before all paragraphs
abbrev pub rank : Group → ℕ
rank groups.Begin = 0
rank groups.About = 1
rank groups.Text = 2
rank groups.Heading = 3
rank groups.Chapter = 4
rank groups.Notes = 5
rank groups.Gap = 6

-- an empty line stands between two groups, and none before all paragraphs
abbrev pub is_parted : Group → Group → Bool
is_parted last group = not (rank last == 0) && not (rank last == rank group)

-- the group after a paragraph without words: only a gap is remembered, after paragraphs
abbrev pub after_empty : Group → Group → Group
after_empty last group =
    if rank group == 6 && not (rank last == 0) then groups.Gap else last

-- a group, and the columns of the indent of a paragraph's first line and of its later ones
abbrev pub set_as : Group → ℕ → ℕ → Setting
set_as group first later = record { group = group; first = first; later = later }

-- the number of a chapter stands on a line of its own
abbrev pub number_setting : Setting
number_setting = set_as groups.Chapter 0 0

-- How a block of a kind is set, after the number of a chapter: a line of poetry 2 columns further than the level before it, and
-- what follows on its later lines 4 more; an item of a list 2 columns for each level.
abbrev pub kind_setting : BlockKind → Setting
kind_setting blocks.Chapter = set_as groups.Text 2 0
kind_setting (blocks.Heading level) = set_as groups.Heading 0 0
kind_setting (blocks.Poetry level) = set_as groups.Text (2 + 2 * level) (6 + 2 * level)
kind_setting (blocks.Item level) = set_as groups.Text (2 * level) (2 + 2 * level)
kind_setting blocks.About = set_as groups.About 0 2
kind_setting blocks.Prose = set_as groups.Text 2 0

-- what comes before all paragraphs is set as prose is
abbrev pub optional_setting : Option BlockKind → Setting
optional_setting None = set_as groups.Text 2 0
optional_setting (Some kind) = kind_setting kind

-- the runs begin with USFM 3.0's mark of an empty line, `\b`
abbrev pub begins_gap : List RunParts → Bool
begins_gap [] = false
begins_gap (r ∷ rs) = bytes_eq r.text (codes "\\b")

-- how a block is set
abbrev pub block_setting : BlockParts → Setting
block_setting b =
    if begins_gap b.runs then set_as groups.Gap 0 0 else optional_setting b.kind

-- notes are set with their later lines further in
abbrev pub note_setting : Setting
note_setting = set_as groups.Notes 0 4

-- ---- what is written of runs

-- what stands for itself, between spaces (32)
abbrev pub set_off : List ℕ → List ℕ
set_off bytes = 32 ∷ (bytes ++ 32 ∷ [])

-- the number of a note in brackets, which are 91 and 93
abbrev pub number_sign : Option ℕ → List ℕ
number_sign None = []
number_sign (Some n) = 91 ∷ (decimal n ++ 93 ∷ [])

-- what is written of a run: words and unknown marks as they are; a number and a caption between
-- spaces; nothing of marks and attributes
abbrev pub written : Sort → List ℕ → List ℕ
written (sorts.Paragraph kind) bytes = []
written sorts.Caller bytes = []
written sorts.Markup bytes = []
written sorts.Words bytes = bytes
written sorts.Caption bytes = set_off bytes
written sorts.Verse bytes = set_off bytes
written sorts.Chapter bytes = set_off bytes
written sorts.Unknown bytes = bytes

-- what is written of a run in the text: of a note its number at its mark
abbrev pub in_text : RunParts → List ℕ
in_text r =
    if is_caller r.sort then number_sign r.note
    else if is_some r.note then []
    else written r.sort r.text

-- what is written of a run in the note that it stands in: the number comes first
abbrev pub in_note : RunParts → List ℕ
in_note r =
    if is_caller r.sort then set_off (number_sign r.note) else written r.sort r.text

-- ---- paragraphs

-- a paragraph: how it is set, and what is written of it, with blanks between words
pub record Paragraph : Type 0 where
  pub setting : Setting
  pub ink : List ℕ

-- a run that is no number of a chapter
abbrev pub is_no_number : Sort → Bool
is_no_number (sorts.Paragraph kind) = true
is_no_number sorts.Caller = true
is_no_number sorts.Markup = true
is_no_number sorts.Words = true
is_no_number sorts.Caption = true
is_no_number sorts.Verse = true
is_no_number sorts.Chapter = false
is_no_number sorts.Unknown = true

-- how many runs there are up to the number of a chapter and with it; 0 where it has none
abbrev pub through_number : List RunParts → ℕ
through_number rs =
    let before = prefix_len (λ r. is_no_number r.sort) rs in
    if nat_lt before (length rs) then before + 1 else 0

-- whether a block is that of a chapter's mark
abbrev pub is_chapter_block : Option BlockKind → Bool
is_chapter_block None = false
is_chapter_block (Some kind) = is_chapter kind

-- how many runs of a block go with the number of its chapter
abbrev pub number_length : BlockParts → ℕ
number_length b = if is_chapter_block b.kind then through_number b.runs else 0

-- runs of the text as a paragraph
abbrev pub text_paragraph : Setting → List RunParts → Paragraph
text_paragraph s rs = record { setting = s; ink = flat_map in_text rs }

-- a block as paragraphs: the number of a chapter, if it has one, and all else
abbrev pub block_paragraphs : BlockParts → List Paragraph
block_paragraphs b =
    text_paragraph number_setting (take (number_length b) b.runs)
    ∷ text_paragraph (block_setting b) (drop (number_length b) b.runs) ∷ []

-- a note as a paragraph
abbrev pub note_paragraph : NoteParts → Paragraph
note_paragraph n = record { setting = note_setting; ink = flat_map in_note n.runs }

-- the paragraphs of a chapter: its blocks, and then its notes
abbrev pub chapter_paragraphs : List RunParts → List Paragraph
chapter_paragraphs rs =
    flat_map block_paragraphs (blocks_of rs) ++ map note_paragraph (notes_of rs)

-- the paragraphs of runs, chapter by chapter
abbrev pub paragraphs_of : List RunParts → List Paragraph
paragraphs_of rs = flat_map chapter_paragraphs (chapters_of rs)
