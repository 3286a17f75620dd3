-- What an answer makes of a replica: one edit over the ids of its line (this project's own rule).
use Rattle.std.specs.Prelude.{ℕ, List, [], ◌∷◌, Option, None, Some, option_map, Result, Ok, Err, if◌then◌else◌}
use Rattle.usfm_ref.specs.declared.segment.Segment.{Segment}
use Rattle.op_core.specs.Ids.{Id}
use Rattle.op_core.specs.Lists.{shown_ids}
use Rattle.op_core.specs.NextIds.{is_among}
use Rattle.op_core.specs.Ops.{Operation, own_text}
use Rattle.op_core.specs.Sets.{get}
use Rattle.replica_state.specs.States.{State}
use Rattle.replica_state.specs.Edits.{edit_over_op}
use Rattle.replica_state.specs.Steps.{with_ops}
use Rattle.replica_state.specs.declared.fault.EditFault.{EditFault}
use Rattle.replica_state.specs.declared.fault.EditFault.TheVariants.{Memory, BadSegment, NoBook, NotShown, NumbersUsedUp}
use Rattle.conflict_answers.specs.Answers.{AnswerParts, Chosen, taken, own, not_now}
use Rattle.conflict_answers.specs.declared.settling.Settled.{Settled}
use Rattle.conflict_answers.specs.declared.settling.Settled.TheVariants.{Made, Left, NotNow}

-- what a replica is after an answer, and what is told of it
pub record Settling : Type 0 where
  pub after : State
  pub told : Result Settled EditFault

-- the text of the operation of an id, if the segment shows it
abbrev pub shown_text : List Operation → Segment → Id → Option (List ℕ)
shown_text held g id =
    if is_among (shown_ids held g) id then option_map own_text (get held id) else None

-- the text that was chosen for a segment: that of the taken id, if it is shown, or one's own
abbrev pub chosen_text : List Operation → Segment → Chosen → Option (List ℕ)
chosen_text held g (taken id) = shown_text held g id
chosen_text held g (own text) = Some text
chosen_text held g not_now = None

-- what is told of an edit that is refused: the answer is left where the text does not fit its
-- segment, or an id is not shown there any more
abbrev pub refused : EditFault → Result Settled EditFault
refused BadSegment = Ok Left
refused NoBook = Ok Left
refused (NotShown id) = Ok Left
refused NumbersUsedUp = Err NumbersUsedUp
refused Memory = Err Memory

-- what is told of an edit
abbrev pub told_of : Result Id EditFault → Result Settled EditFault
told_of (Ok id) = Ok (Made id)
told_of (Err fault) = refused fault

-- an edit is made, unless it is refused
abbrev pub settled_by : State → Result Operation EditFault → Settling
settled_by s (Ok o) = record { after = with_ops s (o ∷ []); told = Ok (Made o.id) }
settled_by s (Err fault) = record { after = s; told = refused fault }

-- one edit over the ids, with the text, if there is one
abbrev pub settled_with : State → Segment → List Id → Option (List ℕ) → Settling
settled_with s g ids None = record { after = s; told = Ok Left }
settled_with s g ids (Some text) = settled_by s (edit_over_op s g text ids)

-- one edit over the ids, with the text of the taken one or with one's own; nothing where nothing is
-- chosen
abbrev pub settled_as : State → Segment → List Id → Chosen → Settling
settled_as s g ids (taken id) = settled_with s g ids (shown_text s.held g id)
settled_as s g ids (own text) = settled_with s g ids (Some text)
settled_as s g ids not_now = record { after = s; told = Ok NotNow }

-- what an answer makes
abbrev pub settled : State → AnswerParts → Settling
settled s a = settled_as s a.segment a.ids a.chosen

-- what answers make, one after another
abbrev pub settled_all : State → List AnswerParts → State
settled_all s [] = s
settled_all s (a ∷ answers) = settled_all (settled s a).after answers
