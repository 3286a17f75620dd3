-- A tree as what a walk over it meets, from the front (this project's own way to read a tree).
use Rattle.sty_sheet.specs.declared.kind.StyleKind.{StyleKind}
use Rattle.std.specs.Prelude.{ℕ, zero, suc, List, [], ◌∷◌, Option, None}
use Rattle.usfm_token.specs.Tokens.{MarkParts}
use Rattle.usfm_tree.specs.Forest.{Forest, nothing, text, leaf, node}
use Rattle.usfm_tree.specs.Reading.{Styles, Open, Placed, kids_of_list, take_close}

-- A text, by where it begins and its bytes; a mark that is a leaf; a node that begins, by its kind
-- and its mark; and the end of the innermost node that has begun, by its closing mark, if it has
-- one.
pub data Event : Type 0 where
  words : ℕ → List ℕ → Event
  single : MarkParts → Event
  begins : StyleKind → MarkParts → Event
  ends : Option MarkParts → Event

-- what a walk meets in a forest, before what it meets later
abbrev pub events_before : Forest → List Event → List Event
events_before nothing later = later
events_before (text s t f) later = words s t ∷ events_before f later
events_before (leaf s m f) later = single m ∷ events_before f later
events_before (node k s b m ks c f) later =
    begins k m ∷ events_before ks (ends c ∷ events_before f later)

-- what a walk meets in a forest
abbrev pub events_of : Forest → List Event
events_of f = events_before f []

-- the ends of this many nodes without closing marks, before what a walk meets later
abbrev pub ends_before : ℕ → List Event → List Event
ends_before zero later = later
ends_before (suc n) later = ends None ∷ ends_before n later

-- what a walk has still to meet, where these nodes are open and these tokens are left
abbrev pub events_left : Styles → List Open → List Placed → List Event
events_left styles [] l = events_of (kids_of_list styles [] l).0
events_left styles (o ∷ os) l =
    let inner = kids_of_list styles (o ∷ os) l in
    let closed = take_close styles (o ∷ os) inner.1 in
    events_before inner.0 (ends closed.0 ∷ events_left styles os closed.1)
