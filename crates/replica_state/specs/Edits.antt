-- Edits of a replica: a write of a multi-value register that names the writes which it replaces
-- (Shapiro, Preguiça, Baquero and Zawirski, INRIA RR-7506). What may be edited, and the numbers of
-- edits, are this project's own rule.
use Rattle.std.specs.Prelude.{ℕ, ◌+◌, nat_le, Bool, not, ◌||◌, List, Option, None}
use Rattle.std.specs.Prelude.{Some, option_map, Result, Ok, Err, if◌then◌else◌}
use Rattle.std.specs.List.{find}
use Rattle.usfm_ref.specs.Keys.{book_head, same_key}
use Rattle.usfm_ref.specs.declared.segment.Segment.{Segment}
use Rattle.verse_cut.specs.Reading.{text_fits}
use Rattle.op_core.specs.Ids.{Id, last_number}
use Rattle.op_core.specs.Ops.{Operation}
use Rattle.op_core.specs.Export.{has_book}
use Rattle.op_core.specs.Lists.{shown_ids}
use Rattle.op_core.specs.NextIds.{greatest_number, next_number, is_among, given_ids}
use Rattle.replica_state.specs.States.{State}
use Rattle.replica_state.specs.declared.fault.EditFault.{EditFault}
use Rattle.replica_state.specs.declared.fault.EditFault.TheVariants.{BadSegment, NoBook}
use Rattle.replica_state.specs.declared.fault.EditFault.TheVariants.{NotShown, NumbersUsedUp}

-- whether numbers up to 10^15 are left for this many operations more
abbrev pub has_numbers : List Operation → ℕ → Bool
has_numbers held count = nat_le (greatest_number held + count) last_number

-- the operation of an id that gives a segment a text
abbrev pub edit_with : Id → Segment → List Id → List ℕ → Operation
edit_with id g replaced text =
    record { id = id; segment = g; replaced = replaced; text = Some text }

-- the number of the first of this many operations more, if numbers are left for all of them
abbrev pub first_number : List Operation → ℕ → Option ℕ
first_number held count = if has_numbers held count then Some (next_number held) else None

-- the id of this number with the replica's name
abbrev pub own_id : State → ℕ → Id
own_id s number = record { number = number; name = s.name }

-- the id of the replica's next operation, if a number is left for it
abbrev pub next_id : State → Option Id
next_id s = option_map (own_id s) (first_number s.held 1)

-- the operation of an edit by its id, or that no number is left
abbrev pub edit_by : Option Id → Segment → List Id → List ℕ → Result Operation EditFault
edit_by None g replaced text = Err NumbersUsedUp
edit_by (Some id) g replaced text = Ok (edit_with id g replaced text)

-- why an edit of the segment may not begin: the text does not fit it; or else its book has no
-- operation, and it is not the book's head
abbrev pub edit_fault : List Operation → Segment → List ℕ → Option EditFault
edit_fault held g text =
    if not (text_fits g.book g.key text) then Some BadSegment
    else (if has_book held g.book || same_key g.key book_head then None else Some NoBook)

-- the first of some ids that the segment does not show
abbrev pub first_not_shown : List Operation → Segment → List Id → Option Id
first_not_shown held g ids = find (λ id. not (is_among (shown_ids held g) id)) ids

-- what is made, unless there is a fault
abbrev pub unless : {X : Type 0} → Option EditFault → Result X EditFault → Result X EditFault
unless None edit = edit
unless (Some fault) edit = Err fault

-- the operation of an edit, by the next id, which names all ids that the segment shows; or the
-- first refusal
abbrev pub edit_op : State → Segment → List ℕ → Result Operation EditFault
edit_op s g text =
    unless (edit_fault s.held g text) (edit_by (next_id s) g (shown_ids s.held g) text)

-- the operation of an edit over given ids, which names these; or the first refusal, where an id
-- that is not shown comes before that no number is left
abbrev pub edit_over_op : State → Segment → List ℕ → List Id → Result Operation EditFault
edit_over_op s g text given =
    unless (edit_fault s.held g text)
    (unless (option_map NotShown (first_not_shown s.held g given))
    (edit_by (next_id s) g (given_ids s.held g given) text))
