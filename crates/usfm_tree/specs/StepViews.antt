-- What a contract sees of the steps of a walk over a tree (this project's own way to read one).
use Rattle.sty_sheet.specs.Records.{Record, mark_style}
use Rattle.sty_sheet.specs.Views.{record_of}
use Rattle.sty_sheet.specs.declared.kind.StyleKind.TheVariants as kinds
use Rattle.std.specs.Prelude.{◌≡◌, ◌≢◌, ℕ, List, [], ◌∷◌, Option, None, Some}
use Rattle.std.specs.Borrow.{Bor}
use Rattle.std.specs.Option.{option_map}
use Rattle.usfm_token.specs.Tokens.{MarkParts}
use Rattle.usfm_token.specs.View.{mark_parts}
use Rattle.usfm_tree.specs.Events.{Event, words, single, begins, ends, events_before, ends_before, events_left}
use Rattle.usfm_tree.specs.Forest.{Forest, nothing, text}
use Rattle.usfm_tree.specs.Reading as reading
use Rattle.usfm_tree.specs.Loops.RoleViews.{role_view}
use Rattle.usfm_tree.specs.Loops.TakenViews.{left_of}
use Rattle.usfm_tree.specs.declared.role.Role.{Role}
use Rattle.usfm_tree.specs.declared.step.Entry.{Entry}
use Rattle.usfm_tree.specs.declared.step.Entry.TheVariants as entries
use Rattle.usfm_tree.specs.declared.step.Step.{Step}

-- a text that may be there, with where it begins
abbrev pub placed_text : Option (ℕ × Bor (List ℕ)) → Forest
placed_text None = nothing
placed_text (Some t) = text t.0 t.1.now nothing

-- what an entry is, before what a walk meets later
abbrev pub entry_before : Entry → List Event → List Event
entry_before (entries.Text start t) later = words start t.now ∷ later
entry_before (entries.Leaf m) later = single (mark_parts m) ∷ later
entry_before (entries.Begin kind m style) later = begins kind (mark_parts m) ∷ later
entry_before (entries.Close m) later = ends (Some (mark_parts m)) ∷ later
entry_before (entries.Milestone m t close) later =
    begins kinds.Milestone (mark_parts m)
    ∷ events_before (placed_text t) (ends (option_map mark_parts close) ∷ later)

-- what a step is: the ends of nodes, and an entry
abbrev pub step_before : Step → List Event → List Event
step_before step later = ends_before step.ended (entry_before step.entry later)

-- the step is the first of what a walk meets, or nothing is left but the ends of open nodes
abbrev pub IsNext : List Event → Option Step → List Event → Type 0
IsNext whole None later = (n : ℕ) × (whole ≡ ends_before n [])
IsNext whole (Some step) later = whole ≡ step_before step later

-- the style of a mark that begins a node is the one that the records have for it, and has the
-- node's kind
abbrev pub IsStyled : List Record → Entry → Type 0
IsStyled rs (entries.Text start t) = Unit {0}
IsStyled rs (entries.Leaf m) = Unit {0}
IsStyled rs (entries.Begin kind m style) =
    (mark_style rs (mark_parts m).name ≡ Some (record_of style.now))
    × ((record_of style.now).kind ≡ Some kind)
IsStyled rs (entries.Close m) = Unit {0}
IsStyled rs (entries.Milestone m t close) = Unit {0}

-- an entry begins no milestone: a milestone is one entry of its own
abbrev pub BeginsNoMilestone : Entry → Type 0
BeginsNoMilestone (entries.Text start t) = Unit {0}
BeginsNoMilestone (entries.Leaf m) = Unit {0}
BeginsNoMilestone (entries.Begin kind m style) = kind ≢ kinds.Milestone
BeginsNoMilestone (entries.Close m) = Unit {0}
BeginsNoMilestone (entries.Milestone m t close) = Unit {0}

-- after nodes that end without a closing mark, an end with this one, if any, and then what the
-- nodes that are left give
abbrev pub closed_before : Option MarkParts → List Event → List Event → List Event
closed_before None used unused = unused
closed_before (Some m) used unused = ends (Some m) ∷ used

-- a token in this role ends this many nodes without a closing mark, and one more with this mark, if
-- any; after that one it is used up
abbrev pub Unwinds : Role → List reading.Open → ℕ → Option MarkParts → List reading.Open → Type 0
Unwinds role os count close new_os =
    (styles : reading.Styles) (t : reading.Placed) (l : List reading.Placed)
    → reading.role styles t.token ≡ role_view role →
    events_left styles os (t ∷ l)
    ≡ ends_before count (closed_before close (events_left styles new_os l)
    (events_left styles new_os (t ∷ l)))

-- a token in this role at start, with rest after it, is an entry, after which this is left: the
-- source has end bytes
abbrev pub EntersAs : Role → ℕ → ℕ → List ℕ → List ℕ → Entry → List reading.Open → List reading.Open
    → Type 0
EntersAs role start end rest after entry os new_os =
    (styles : reading.Styles) (t : reading.Placed) → reading.role styles t.token ≡ role_view role
    → t.start ≡ start →
    events_left styles os (t ∷ left_of end rest)
    ≡ entry_before entry (events_left styles new_os (left_of end after))
