-- The reading of a text by a style sheet: what a reader sees, as runs in the order of the text.
--
-- That the notes of a chapter are numbered from 1, in the order of their marks, and those before
-- all chapters too, is this project's own rule.
use Rattle.std.specs.Prelude.{ℕ, ◌+◌, ◌==◌, Bool, true, false, not, ◌&&◌, List, [], ◌∷◌, length, filter}
use Rattle.std.specs.Prelude.{Option, None, Some, is_none, if◌then◌else◌}
use Rattle.usfm_tree.specs.Reading.{Styles, tree_of}
use Rattle.book_reading.specs.Stretches.{Stretch, root, stretches_in}
use Rattle.book_reading.specs.declared.kind.BlockKind.{BlockKind}
use Rattle.book_reading.specs.declared.kind.BlockKind.TheVariants as blocks
use Rattle.book_reading.specs.declared.lead.Lead.TheVariants as leads
use Rattle.book_reading.specs.declared.run.Sort.{Sort}
use Rattle.book_reading.specs.declared.run.Sort.TheVariants as sorts

-- a run: what it is seen as, the name of the innermost character mark that it stands in, the number
-- of the note that it stands in, if any, and its bytes
pub record RunParts : Type 0 where
  pub sort : Sort
  pub style : List ℕ
  pub note : Option ℕ
  pub text : List ℕ

-- the mark of a note
abbrev pub is_caller : Sort → Bool
is_caller (sorts.Paragraph kind) = false
is_caller sorts.Caller = true
is_caller sorts.Markup = false
is_caller sorts.Words = false
is_caller sorts.Caption = false
is_caller sorts.Verse = false
is_caller sorts.Chapter = false
is_caller sorts.Unknown = false

-- whether a kind is that of a chapter's mark
abbrev pub is_chapter : BlockKind → Bool
is_chapter blocks.Chapter = true
is_chapter (blocks.Heading level) = false
is_chapter (blocks.Poetry level) = false
is_chapter (blocks.Item level) = false
is_chapter blocks.About = false
is_chapter blocks.Prose = false

-- the mark of a chapter
abbrev pub begins_chapter : Sort → Bool
begins_chapter (sorts.Paragraph kind) = is_chapter kind
begins_chapter sorts.Caller = false
begins_chapter sorts.Markup = false
begins_chapter sorts.Words = false
begins_chapter sorts.Caption = false
begins_chapter sorts.Verse = false
begins_chapter sorts.Chapter = false
begins_chapter sorts.Unknown = false

-- a run that is the mark of a chapter and stands in no note
abbrev pub starts_chapter : RunParts → Bool
starts_chapter r = begins_chapter r.sort && is_none r.note

-- how many notes of a chapter have begun after a stretch, where n had before it
abbrev pub notes_after : ℕ → Sort → ℕ
notes_after n sort = if is_caller sort then n + 1 else if begins_chapter sort then 0 else n

-- a stretch as a run, where n notes of its chapter have begun with it
abbrev pub numbered : ℕ → Stretch → RunParts
numbered n s = record {
  sort = s.sort;
  style = s.style;
  note = (if s.in_note then Some n else None);
  text = s.text;
}

-- stretches as runs, where n notes of the chapter have begun before them
abbrev pub numbered_from : ℕ → List Stretch → List RunParts
numbered_from n [] = []
numbered_from n (s ∷ ss) =
    numbered (notes_after n s.sort) s ∷ numbered_from (notes_after n s.sort) ss

-- a stretch has bytes
abbrev pub is_filled : Stretch → Bool
is_filled s = not (length s.text == 0)

-- the runs of stretches, of which the empty ones are left out
abbrev pub runs_of : ℕ → List Stretch → List RunParts
runs_of n ss = numbered_from n (filter is_filled ss)

-- the reading of a text by the styles of its marks
unfoldable pub reading_of : Styles → List ℕ → List RunParts
reading_of styles s =
    runs_of 0 (stretches_in styles root leads.Nothing (tree_of styles s))
