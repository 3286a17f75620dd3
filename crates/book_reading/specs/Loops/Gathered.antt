-- The stretches of a tree as one reading of what a walk meets, from the left.
use Rattle.sty_sheet.specs.declared.kind.StyleKind.{StyleKind}
use Rattle.std.specs.Prelude.{ℕ, Bool, false, ◌||◌, List, [], ◌∷◌, ◌++◌, Option, None, Some, is_some}
use Rattle.usfm_token.specs.Tokens.{MarkParts, mark_bytes}
use Rattle.usfm_tree.specs.Events.{Event, words, single, begins, ends}
use Rattle.usfm_tree.specs.Reading.{Styles, is_note_kind}
use Rattle.usfm_tree.specs.declared.step.Entry.{Entry}
use Rattle.usfm_tree.specs.declared.step.Entry.TheVariants as entries
use Rattle.book_reading.specs.Leads.{node_lead}
use Rattle.book_reading.specs.Stretches.{Place, Stretch, root, stretch, style_in, mark_sort, is_known}
use Rattle.book_reading.specs.Stretches.{may_have_attributes}
use Rattle.book_reading.specs.Stretches.{leaf_sort, leaf_lead, close_stretches, node_end}
use Rattle.book_reading.specs.Stretches.{text_stretches}
use Rattle.book_reading.specs.declared.lead.Lead.{Lead}
use Rattle.book_reading.specs.declared.lead.Lead.TheVariants as leads
use Rattle.book_reading.specs.declared.run.Sort.TheVariants as sorts

-- a text that was met, of which it is not known yet whether it ends with attributes, and what may
-- stand at its front
pub record Waiting : Type 0 where
  pub lead : Lead
  pub text : List ℕ

-- the innermost of the open nodes
abbrev pub innermost : List Place → Place
innermost [] = root
innermost (p ∷ ps) = p

-- the open nodes around the innermost
abbrev pub outer : List Place → List Place
outer [] = []
outer (p ∷ ps) = ps

-- a place in a node, of which it is not known yet how it ends
abbrev pub entered : Place → StyleKind → List ℕ → Place
entered p kind name = record {
  in_note = is_note_kind kind || p.in_note;
  style = style_in kind name p.style;
  has_attributes = may_have_attributes kind;
}

-- a text that waited at a place, before what comes after it
abbrev pub settled : Place → Bool → Option Waiting → List Stretch → List Stretch
settled p may_end None later = later
settled p may_end (Some w) later = text_stretches p may_end w.lead w.text ++ later

-- a text, if there is one, before what comes after it
abbrev pub optional : Place → Bool → Lead → Option (List ℕ) → List Stretch → List Stretch
optional p may_end lead None later = later
optional p may_end lead (Some t) later = text_stretches p may_end lead t ++ later

-- a milestone, which takes a text or none, before what comes after it
abbrev pub milestone : Place → Lead → MarkParts → Option (List ℕ) → Option MarkParts
    → List Stretch → List Stretch
milestone inner lead m t c later =
    stretch inner sorts.Markup (mark_bytes m)
    ∷ optional inner (is_some c) lead t (close_stretches inner c ++ later)

-- attributes may end a text before the end of a node
abbrev pub closes_attributes : Place → Option MarkParts → Bool
closes_attributes p None = false
closes_attributes p (Some m) = p.has_attributes

-- and before an entry
abbrev pub attributes_may_end : Place → Entry → Bool
attributes_may_end p (entries.Text start t) = false
attributes_may_end p (entries.Leaf m) = false
attributes_may_end p (entries.Begin kind m style) = false
attributes_may_end p (entries.Close m) = p.has_attributes
attributes_may_end p (entries.Milestone m t close) = false

-- The stretches that a walk gives which has this still to meet, where nodes are open, this may
-- stand at the front of a text, and a text waits, if any.
abbrev pub gathered : Styles → List Place → Lead → Option Waiting → List Event → List Stretch
gathered styles ps lead w [] = settled (innermost ps) false w []
gathered styles ps lead w (words s t ∷ events) =
    settled (innermost ps) false w
    (gathered styles ps leads.Nothing (Some (record { lead = lead; text = t })) events)
gathered styles ps lead w (single m ∷ events) =
    settled (innermost ps) false w
    (stretch (innermost ps) (leaf_sort (is_known styles m)) (mark_bytes m)
    ∷ gathered styles ps (leaf_lead (is_known styles m) m.name) None events)
gathered styles ps lead w (begins k m ∷ events) =
    settled (innermost ps) false w
    (stretch (entered (innermost ps) k m.name) (mark_sort k m.name) (mark_bytes m)
    ∷ gathered styles (entered (innermost ps) k m.name ∷ ps) (node_lead k m.name) None events)
gathered styles ps lead w (ends c ∷ events) =
    settled (innermost ps) (closes_attributes (innermost ps) c) w
    (close_stretches (innermost ps) c ++ gathered styles (outer ps) (node_end lead c) None events)
