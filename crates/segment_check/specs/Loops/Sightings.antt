-- What a tree says of its marks, as a walk over it sees them.
use Rattle.sty_sheet.specs.declared.kind.StyleKind.{StyleKind}
use Rattle.std.specs.Prelude.{ℕ, true, false, List, [], ◌∷◌, ◌++◌, length, map, reverse, slice_set}
use Rattle.std.specs.Prelude.{Option, None, Some}
use Rattle.sty_sheet.specs.Records.{Record}
use Rattle.usfm_token.specs.Tokens.{MarkParts}
use Rattle.usfm_tree.specs.Events.{Event, words, single, begins, ends}
use Rattle.segment_check.specs.Reading.{unseen}
use Rattle.segment_check.specs.Loops.TreeViews.{Surroundings, surroundings_of, inside_view}
use Rattle.segment_check.specs.Loops.TreeViews.{entering, seen_by}
use Rattle.segment_check.specs.declared.seen.Seen.{Seen}
use Rattle.segment_check.specs.declared.sighting.OpenNode.{OpenNode}
use Rattle.segment_check.specs.declared.sighting.Sighting.{Sighting}

-- An open node: what the nodes around a mark in it decide, where the list has what is seen of its
-- own mark, and what is seen of that if the node ends with a closing mark.
pub record Level : Type 0 where
  pub within : Surroundings
  pub place : ℕ
  pub closed : Seen

-- what the open nodes, the innermost first, decide of a mark in them
abbrev pub surroundings_in : List Level → Surroundings
surroundings_in [] = surroundings_of []
surroundings_in (l ∷ ls) = l.within

-- the open nodes around the innermost
abbrev pub but_innermost : List Level → List Level
but_innermost [] = []
but_innermost (l ∷ ls) = ls

-- a node that begins in these, with what is seen of its mark at a place
abbrev pub level_of : List Record → List Level → StyleKind → MarkParts → ℕ → Level
level_of sheet ls k m place = record {
  within = entering k m.name (surroundings_in ls);
  place = place;
  closed = seen_by sheet (surroundings_in ls) m (Some k) true;
}

-- what is seen so far, where the innermost node ends with a closing mark
abbrev pub closed_in : List Level → List Seen → List Seen
closed_in [] seen = seen
closed_in (l ∷ ls) seen = slice_set seen l.place l.closed

-- the same where it ends with this closing mark, or with none; of the closing mark nothing is seen
abbrev pub ended_in : Option MarkParts → List Level → List Seen → List Seen
ended_in None ls seen = seen
ended_in (Some m) ls seen = closed_in ls seen ++ unseen ∷ []

-- What a walk has seen in the end that has seen this so far, with these nodes open, and has this
-- still to meet. Of a mark that begins a node it sees that the node is not closed, until it is.
abbrev pub seen_after : List Record → List Seen → List Level → List Event → List Seen
seen_after sheet seen ls [] = seen
seen_after sheet seen ls (words s t ∷ events) = seen_after sheet seen ls events
seen_after sheet seen ls (single m ∷ events) =
    seen_after sheet (seen ++ seen_by sheet (surroundings_in ls) m None false ∷ []) ls events
seen_after sheet seen ls (begins k m ∷ events) =
    seen_after sheet (seen ++ seen_by sheet (surroundings_in ls) m (Some k) false ∷ [])
    (level_of sheet ls k m (length seen) ∷ ls) events
seen_after sheet seen ls (ends c ∷ events) =
    seen_after sheet (ended_in c ls seen) (but_innermost ls) events

-- an open node of a walk
abbrev pub level_view : OpenNode → Level
level_view n = record { within = inside_view n.inside; place = n.place; closed = n.closed }

-- the open nodes, the innermost first
abbrev pub levels : List OpenNode → List Level
levels ns = map level_view (reverse ns)

-- what a walk has seen in the end that has this still to meet
abbrev pub seen_with : List Record → Sighting → List Event → List Seen
seen_with sheet w events = seen_after sheet w.seen.items (levels w.open_nodes.items) events
