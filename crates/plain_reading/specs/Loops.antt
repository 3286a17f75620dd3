-- What contracts of private functions alone speak of: views of what they keep.
use Rattle.std.specs.Prelude.{ℕ, ◌+◌, ◌-◌, Bool, true, false, List, [], ◌∷◌, ◌++◌, length, Option, None, Some, string_bytes}
use Rattle.usfm_ref.specs.declared.segment.Segment.{Segment}
use Rattle.verse_cut.specs.Pieces.{PieceParts}
use Rattle.plain_reading.specs.Lines.{paragraphs_text}
use Rattle.plain_reading.specs.Paragraphs.{Paragraph}
use Rattle.plain_reading.specs.Parts.{gaps}
use Rattle.plain_reading.specs.declared.marking.Countdown.{Countdown}
use Rattle.plain_reading.specs.declared.selected.Selected.{Selected}
use Rattle.plain_reading.specs.declared.page.Page.{Page}

-- the text of a page so far, and that of paragraphs which come after it
abbrev pub page_with : Page → List Paragraph → List ℕ
page_with page later = string_bytes page.text ++ paragraphs_text page.width page.last later

-- a first gap, if there is one, and those after it
abbrev pub with_first : Option ℕ → List ℕ → List ℕ
with_first None later = []
with_first (Some gap) later = gap ∷ later

-- the gaps that are left
abbrev pub gaps_left : Countdown → List ℕ
gaps_left c = with_first c.gap c.later.now

-- how many bytes were taken after the last piece in conflict began
abbrev pub since : Selected → ℕ
since s = length (string_bytes s.text) - s.last

-- the gaps so far, and those of pieces that come after
abbrev pub gaps_with : Selected → List Segment → List PieceParts → List ℕ
gaps_with s left later = s.gaps.items ++ gaps (since s) left later

-- the same, where a piece comes first that is in conflict, or is not
abbrev pub gaps_past : Selected → Bool → PieceParts → List Segment → List PieceParts → List ℕ
gaps_past s true p left later = s.gaps.items ++ (since s ∷ gaps (length p.text) left later)
gaps_past s false p left later = s.gaps.items ++ gaps (since s + length p.text) left later
