-- Laws of settling (this project's own rule).
use Rattle.std.specs.Prelude.{◌≡◌, ℕ, false, List}
use Rattle.std.specs.List.{Contains}
use Rattle.usfm_ref.specs.declared.segment.Segment.{Segment}
use Rattle.op_core.specs.Ids.{Id}
use Rattle.op_core.specs.Ops.{Operation}
use Rattle.op_core.specs.Shown.{shown}
use Rattle.op_core.specs.Lists.{shown_ids}
use Rattle.op_core.specs.NextIds.{is_among}
use Rattle.replica_state.specs.States.{State, IsState}
use Rattle.replica_state.specs.Steps.{Edit, EditOver, step}
use Rattle.conflict_settling.specs.Asked.{listed_ids}

-- What is listed of a segment is what it shows.
abbrev pub ListsWhatIsShown : Type 0
ListsWhatIsShown =
    (held : List Operation) (g : Segment) (id : Id) →
    is_among (listed_ids held g) id ≡ is_among (shown_ids held g) id

-- What was not listed stays: of what a replica shows when the answer to an earlier question is
-- made, an operation that the question did not list is shown after it, such as one that came in
-- since.
abbrev pub UnlistedStays : Type 0
UnlistedStays =
    (s : State) (asked_of : List Operation) (g h : Segment) (text : List ℕ) (o : Operation) →
    IsState s → Contains (shown s.held h) o → is_among (listed_ids asked_of g) o.id ≡ false →
    Contains (shown (step s (EditOver g text (listed_ids asked_of g))).after.held h) o

-- Where nothing came in since, the answer replaces all that the segment shows, as an edit of it
-- does.
abbrev pub SettlesAll : Type 0
SettlesAll =
    (s : State) (g : Segment) (text : List ℕ) →
    step s (EditOver g text (listed_ids s.held g)) ≡ step s (Edit g text)
