-- The plain leaves as a walk over the tree gathers them.
use Rattle.sty_sheet.specs.declared.kind.StyleKind.{StyleKind}
use Rattle.std.specs.Prelude.{ℕ, ◌+◌, ◌^◌, ◌<◌, Bool, false, not, ◌&&◌, ◌||◌, List, [], ◌∷◌, length}
use Rattle.std.specs.Prelude.{drop, Option, None, Some, if◌then◌else◌}
use Rattle.sty_sheet.specs.Records.{Record}
use Rattle.usfm_token.specs.Tokens.{MarkParts}
use Rattle.usfm_tree.specs.Events.{Event, words, single, begins, ends}
use Rattle.usfm_tree.specs.Reading.{is_character_kind, is_paragraph_kind}
use Rattle.usfm_tree.specs.declared.step.Entry.{Entry}
use Rattle.usfm_tree.specs.declared.step.Entry.TheVariants as entries
use Rattle.concordance.specs.Passages.{Passage}
use Rattle.concordance.specs.Plain.{has_verse_text, is_aside_kind, node_end, number_length}
use Rattle.concordance.specs.Plain.{without_attributes}
use Rattle.concordance.specs.declared.plain.Enclosure.{Enclosure}

-- under the root
abbrev pub root : Enclosure
root = record { in_verse_text = false; in_aside = false; is_character = false }

-- the innermost of the open nodes, and those around it
abbrev pub innermost : List Enclosure → Enclosure
innermost [] = root
innermost (e ∷ es) = e

-- the open nodes around the innermost
abbrev pub outer : List Enclosure → List Enclosure
outer [] = []
outer (e ∷ es) = es

-- a node in another
abbrev pub enclosed : List Record → Enclosure → StyleKind → MarkParts → Enclosure
enclosed sheet e kind m = record {
  in_verse_text = (is_paragraph_kind kind && has_verse_text sheet m.name) || e.in_verse_text;
  in_aside = is_aside_kind kind || e.in_aside;
  is_character = is_character_kind kind;
}

-- a text that counts, without the number before it; whether attributes may end it is known when the
-- next entry is met
abbrev pub counted : Enclosure → Option MarkParts → ℕ → List ℕ → Option Passage
counted e before start bytes =
    let n = number_length before bytes in
    if not e.in_aside && e.in_verse_text
    then Some (record { start = start + n; text = drop n bytes }) else None

-- a text that waited is a leaf, before others
abbrev pub settled : Bool → Option Passage → List Passage → List Passage
settled may_end None later = later
settled may_end (Some p) later =
    record { start = p.start; text = without_attributes may_end p.text } ∷ later

-- a character node ends with its closing mark
abbrev pub closes_character : Enclosure → Option MarkParts → Bool
closes_character e None = false
closes_character e (Some m) = e.is_character

-- and so attributes may end a text before an entry
abbrev pub attributes_may_end : Enclosure → Entry → Bool
attributes_may_end e (entries.Text start t) = false
attributes_may_end e (entries.Leaf m) = false
attributes_may_end e (entries.Begin kind m style) = false
attributes_may_end e (entries.Close m) = e.is_character
attributes_may_end e (entries.Milestone m t close) = false

-- the mark after a milestone, which takes a text or none
abbrev pub milestone_end : MarkParts → Option (List ℕ) → Option MarkParts → Option MarkParts
milestone_end m None close = node_end (Some m) close
milestone_end m (Some t) close = node_end None close

-- The leaves that a walk gives which has this still to meet, where nodes are open, a mark comes
-- directly before, if any, and a text waits, if any.
abbrev pub gathered : List Record → List Enclosure → Option MarkParts → Option Passage → List Event
    → List Passage
gathered sheet es before waiting [] = settled false waiting []
gathered sheet es before waiting (words s t ∷ events) =
    settled false waiting (gathered sheet es None (counted (innermost es) before s t) events)
gathered sheet es before waiting (single m ∷ events) =
    settled false waiting (gathered sheet es (Some m) None events)
gathered sheet es before waiting (begins k m ∷ events) =
    settled false waiting
    (gathered sheet (enclosed sheet (innermost es) k m ∷ es) (Some m) None events)
gathered sheet es before waiting (ends c ∷ events) =
    settled (closes_character (innermost es) c) waiting
    (gathered sheet (outer es) (node_end before c) None events)

-- each text ends at a place that fits
abbrev pub EventsFit : List Event → Type 0
EventsFit [] = Unit {0}
EventsFit (words s t ∷ events) = (s + length t < 2 ^ 64) × EventsFit events
EventsFit (single m ∷ events) = EventsFit events
EventsFit (begins k m ∷ events) = EventsFit events
EventsFit (ends c ∷ events) = EventsFit events

-- a text entry ends at a place that fits
abbrev pub EntryFits : Entry → Type 0
EntryFits (entries.Text start t) = start + length t.now < 2 ^ 64
EntryFits (entries.Leaf m) = Unit {0}
EntryFits (entries.Begin kind m style) = Unit {0}
EntryFits (entries.Close m) = Unit {0}
EntryFits (entries.Milestone m t close) = Unit {0}
