-- Changes of segments, and the edits that make them (this project's own rule): what an import is,
-- however its changes were found.
use Rattle.std.specs.Prelude.{ℕ, suc, not, List, [], ◌∷◌, map, length, Option, None, Some, option_map, Result, Ok, Err, if◌then◌else◌}
use Rattle.std.specs.Option.{option_or}
use Rattle.usfm_ref.specs.Keys.{KeyParts}
use Rattle.usfm_ref.specs.Segments.{segment}
use Rattle.verse_cut.specs.Reading.{text_fits}
use Rattle.op_core.specs.Ids.{Id}
use Rattle.op_core.specs.Ops.{Operation}
use Rattle.op_core.specs.NextIds.{given_ids}
use Rattle.replica_state.specs.States.{State}
use Rattle.replica_state.specs.Edits.{edit_with, own_id, first_number, first_not_shown, unless}
use Rattle.replica_state.specs.declared.change.Change.{Change}
use Rattle.replica_state.specs.declared.fault.EditFault.{EditFault}
use Rattle.replica_state.specs.declared.fault.EditFault.TheVariants.{BadSegment, NotShown, NumbersUsedUp}

-- a change of a segment of a book: its key, the text that it gets, and the ids of what the text
-- replaces
pub record ChangeParts : Type 0 where
  pub key : KeyParts
  pub text : List ℕ
  pub ids : List Id

-- what a contract sees of a change
abbrev pub change_view : Change → ChangeParts
change_view c = record { key = c.key; text = c.text.now; ids = c.ids.items }

-- changes, each as a contract sees it
abbrev pub changes_view : List Change → List ChangeParts
changes_view changes = map change_view changes

-- The edits of some changes of a book, numbered one after the other: each gives its segment the
-- text, and names the ids of the change, in whatever order they are given, that the segment shows.
abbrev pub edits_from : ℕ → State → List ℕ → List ChangeParts → List Operation
edits_from number s book [] = []
edits_from number s book (c ∷ later) =
    edit_with (own_id s number) (segment book c.key)
    (given_ids s.held (segment book c.key) c.ids) c.text
    ∷ edits_from (suc number) s book later

-- the edits of some changes from a number on, or the fault that there is none
abbrev pub edits_by : {F : Type 0} → F → Option ℕ → State → List ℕ → List ChangeParts
    → Result (List Operation) F
edits_by full None s book changes = Err full
edits_by full (Some first) s book changes = Ok (edits_from first s book changes)

-- the edits of some changes by the replica's next numbers, or the fault that no numbers are left
-- for them
abbrev pub edits_or : {F : Type 0} → F → State → List ℕ → List ChangeParts
    → Result (List Operation) F
edits_or full s book changes = edits_by full (first_number s.held (length changes)) s book changes

-- why a change may not be made: its text does not fit its segment; or else the segment does not
-- show one of its ids, the first such
abbrev pub change_fault : List Operation → List ℕ → ChangeParts → Option EditFault
change_fault held book c =
    if not (text_fits book c.key c.text) then Some BadSegment
    else option_map NotShown (first_not_shown held (segment book c.key) c.ids)

-- why the first of some changes that may not be made may not
abbrev pub first_fault : List Operation → List ℕ → List ChangeParts → Option EditFault
first_fault held book [] = None
first_fault held book (c ∷ later) =
    option_or (change_fault held book c) (first_fault held book later)

-- the edits of some changes of a book; or why one may not be made, or else that no numbers are left
-- for them
abbrev pub changes_ops : State → List ℕ → List ChangeParts → Result (List Operation) EditFault
changes_ops s book changes =
    unless (first_fault s.held book changes) (edits_or NumbersUsedUp s book changes)
