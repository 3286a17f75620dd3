-- What is to be had back of a segment, by the operations that it shows in falling order.
use Rattle.std.specs.Prelude.{◌≡◌, ℕ, Bool, true, false, List, [], ◌∷◌, map, reverse, Option, None, Some, if◌then◌else◌}
use Rattle.usfm_ref.specs.Books.{same_bytes}
use Rattle.usfm_ref.specs.declared.segment.Segment.{Segment}
use Rattle.op_core.specs.Ids.{Id}
use Rattle.op_core.specs.Ops.{Operation}
use Rattle.segment_history.specs.Histories.{KeptPart, Whole, TextLeftOut, NotHeld}
use Rattle.segment_history.specs.Changes.{ShownParts}
use Rattle.segment_history.specs.Restores.{RestoredParts}
use Rattle.segment_history.specs.Loops.Showing.{left_parts, Known}
use Rattle.segment_history.specs.declared.fault.RestoreFault.{RestoreFault}
use Rattle.segment_history.specs.declared.fault.RestoreFault.TheVariants.{Memory, NotHeld, LeftOut}

-- the text that is kept, empty where none is
abbrev pub text_kept : KeptPart → List ℕ
text_kept (Whole text) = text
text_kept TextLeftOut = []
text_kept NotHeld = []

-- whether a text is kept
abbrev pub has_text : KeptPart → Bool
has_text (Whole text) = true
has_text TextLeftOut = false
has_text NotHeld = false

-- the text of the first of some operations, empty where there is none
abbrev pub first_text : List ShownParts → List ℕ
first_text [] = []
first_text (s ∷ rest) = text_kept s.kept

-- the id of the first of some operations, if its text was left out
abbrev pub first_lost : List ShownParts → Option Id
first_lost [] = None
first_lost (s ∷ rest) = if has_text s.kept then None else Some s.id

-- the ids of some operations, in the other order
abbrev pub turned_ids : List ShownParts → List Id
turned_ids parts = reverse (map (λ s. s.id) parts)

-- the edit that gives a segment which shows these a text; none where it has that text
abbrev pub restored_over : List ShownParts → Segment → List ℕ → List RestoredParts
restored_over parts g text =
    if same_bytes (first_text parts) text then []
    else record { segment = g; text = text; ids = turned_ids parts } ∷ []

-- what the known ones of a segment's operations show by themselves
abbrev pub known_parts : List Operation → Known → List ShownParts
known_parts ops known = left_parts ops (Some known)

-- the edit that gives a segment with these operations the text that the known ones pick
abbrev pub restored_by : List Operation → Known → Segment → List RestoredParts
restored_by ops known g = restored_over (left_parts ops None) g (first_text (known_parts ops known))

-- a refusal tells the operation whose text was left out, or that there was no memory
abbrev pub IsLost : Option Id → RestoreFault → Type 0
IsLost lost Memory = Unit {0}
IsLost lost (NotHeld id) = ⊥
IsLost lost (LeftOut id) = lost ≡ Some id
