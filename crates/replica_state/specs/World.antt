-- Worlds of replicas (this project's own rule, over replicas that deliver their states to each
-- other as in Shapiro, Preguiça, Baquero and Zawirski, INRIA RR-7506): what may happen at any
-- number of replicas, in any order.
pub mod Twin
pub mod Schedules
pub mod Exchanges
pub mod Agreement
pub mod Invisible
pub mod Bytes
pub mod Calls
use Rattle.std.specs.Prelude.{ℕ, Bool, true, false, not, List, [], ◌∷◌, Option, Some}
use Rattle.std.specs.Prelude.{None, Result, Ok, Err, IsTrue, slice_get, if◌then◌else◌}
use Rattle.std.specs.Str.{IsUtf8}
use Rattle.usfm_ref.specs.Books.{same_bytes}
use Rattle.usfm_ref.specs.declared.segment.Segment.{Segment}
use Rattle.op_core.specs.Names.{is_name}
use Rattle.op_core.specs.Ids.{Id}
use Rattle.op_core.specs.Ops.{Operation, is_segment}
use Rattle.op_core.specs.Thinned.{is_legal, of_ids}
use Rattle.bundle_codec.specs.Summaries.{NameRanges, summary_of}
use Rattle.replica_state.specs.States.{State}
use Rattle.replica_state.specs.Edits.{edit_op, edit_over_op}
use Rattle.replica_state.specs.Imports.{import_ops}
use Rattle.replica_state.specs.Steps.{Command, Receive, Edit, EditOver, Import, Thin, step}

-- What each replica holds, and every bundle and every summary that was made so far, the last one
-- first. A replica is known by its name, so no two have one name, and there may be any number of
-- them.
pub record World : Type 0 where
  pub held : List ℕ → List Operation
  pub bundles : List (List Operation)
  pub summaries : List (List NameRanges)

-- each replica has begun, and nothing was made
abbrev pub beginning : World
beginning = record { held = λ name. []; bundles = []; summaries = [] }

-- the replica of a name
abbrev pub replica : World → List ℕ → State
replica w name = record { name = name; held = w.held name }

-- What may happen at the replica of a name: an edit, an edit over given ids, an import, a thinning;
-- a summary; a bundle of what it holds of some ids, whichever these are; the receiving of a bundle
-- that was made, which is named by its place among all of them, or of a cut one, a front of its
-- bytes; a call that finds no memory. A bundle is lost that is not received.
pub data Event : Type 0 where
  Edits : (name : List ℕ) (g : Segment) (text : List ℕ) → Event
  EditsOver : (name : List ℕ) (g : Segment) (text : List ℕ) (given : List Id) → Event
  Imports : (name file : List ℕ) → Event
  Thins : (name : List ℕ) → Event
  Summarizes : (name : List ℕ) → Event
  Bundles : (name : List ℕ) (kept : Id → Bool) → Event
  Receives : (name : List ℕ) (bundle : ℕ) → Event
  ReceivesCut : (name : List ℕ) (bundle length : ℕ) → Event
  FindsNoMemory : (name : List ℕ) → Event

-- ---- what an event makes of the world

-- the world in which a replica holds something else
abbrev pub with_held : World → List ℕ → List Operation → World
with_held w name ops = record {
  held = λ other. if same_bytes other name then ops else w.held other;
  bundles = w.bundles;
  summaries = w.summaries;
}

-- the world after a replica's step
abbrev pub steps : World → List ℕ → Command → World
steps w name command = with_held w name (step (replica w name) command).after.held

-- the world after a replica received a bundle, if there is one
abbrev pub received : World → List ℕ → Option (List Operation) → World
received w name None = w
received w name (Some bundle) = steps w name (Receive bundle)

-- the world with one summary more
abbrev pub with_summary : World → List NameRanges → World
with_summary w s = record { held = w.held; bundles = w.bundles; summaries = s ∷ w.summaries }

-- the world with one bundle more, if it may be made
abbrev pub with_bundle : World → List Operation → Bool → World
with_bundle w ops true =
    record { held = w.held; bundles = ops ∷ w.bundles; summaries = w.summaries }
with_bundle w ops false = w

-- the world after an event. A bundle that would not be legal is not made. A cut bundle is refused,
-- and a call that finds no memory is too: both change nothing.
abbrev pub happens : World → Event → World
happens w (Edits name g text) = steps w name (Edit g text)
happens w (EditsOver name g text given) = steps w name (EditOver g text given)
happens w (Imports name file) = steps w name (Import file)
happens w (Thins name) = steps w name Thin
happens w (Summarizes name) = with_summary w (summary_of (w.held name))
happens w (Bundles name kept) =
    with_bundle w (of_ids kept (w.held name)) (is_legal (of_ids kept (w.held name)))
happens w (Receives name k) = received w name (slice_get w.bundles k)
happens w (ReceivesCut name k length) = w
happens w (FindsNoMemory name) = w

-- the world after some events, of which the last comes first
abbrev pub world : List Event → World
world [] = beginning
world (e ∷ past) = happens (world past) e

-- ---- what an event makes of operations

-- the operation of an edit, if it is not refused
abbrev pub edit_made : {F : Type 0} → Result Operation F → List Operation
edit_made (Ok o) = o ∷ []
edit_made (Err fault) = []

-- the operations of an import, if it is not refused
abbrev pub edits_made : {F : Type 0} → Result (List Operation) F → List Operation
edits_made (Ok ops) = ops
edits_made (Err fault) = []

-- the operations that an event makes
abbrev pub made : World → Event → List Operation
made w (Edits name g text) = edit_made (edit_op (replica w name) g text)
made w (EditsOver name g text given) = edit_made (edit_over_op (replica w name) g text given)
made w (Imports name file) = edits_made (import_ops (replica w name) file)
made w (Thins name) = []
made w (Summarizes name) = []
made w (Bundles name kept) = []
made w (Receives name k) = []
made w (ReceivesCut name k length) = []
made w (FindsNoMemory name) = []

-- ---- kinds of events

-- a right name, a segment within its ranges, and a text
pub record IsEdit (n : List ℕ) (g : Segment) (t : List ℕ) : Type 0 where
  pub name : IsTrue (is_name n)
  pub segment : IsTrue (is_segment g)
  pub text : IsUtf8 t

-- the event's own parts are within their ranges, as those of a call are
abbrev pub IsWithin : Event → Type 0
IsWithin (Edits name g text) = IsEdit name g text
IsWithin (EditsOver name g text given) = IsEdit name g text
IsWithin (Imports name file) = IsTrue (is_name name) × IsUtf8 file
IsWithin (Thins name) = Unit {0}
IsWithin (Summarizes name) = Unit {0}
IsWithin (Bundles name kept) = Unit {0}
IsWithin (Receives name k) = Unit {0}
IsWithin (ReceivesCut name k length) = Unit {0}
IsWithin (FindsNoMemory name) = Unit {0}

-- whether the event is no edit, edit over or import, or is one at a replica that passes
abbrev pub edits_at : (List ℕ → Bool) → Event → Bool
edits_at is_there (Edits name g text) = is_there name
edits_at is_there (EditsOver name g text given) = is_there name
edits_at is_there (Imports name file) = is_there name
edits_at is_there (Thins name) = true
edits_at is_there (Summarizes name) = true
edits_at is_there (Bundles name kept) = true
edits_at is_there (Receives name k) = true
edits_at is_there (ReceivesCut name k length) = true
edits_at is_there (FindsNoMemory name) = true

-- whether the event is no edit, edit over or import
abbrev pub is_exchange : Event → Bool
is_exchange e = edits_at (λ name. false) e

-- whether the event changes nothing at the replica of a name
abbrev pub is_apart : List ℕ → Event → Bool
is_apart name (Edits n g text) = not (same_bytes name n)
is_apart name (EditsOver n g text given) = not (same_bytes name n)
is_apart name (Imports n file) = not (same_bytes name n)
is_apart name (Thins n) = not (same_bytes name n)
is_apart name (Summarizes n) = true
is_apart name (Bundles n kept) = true
is_apart name (Receives n k) = not (same_bytes name n)
is_apart name (ReceivesCut n k length) = true
is_apart name (FindsNoMemory n) = true

-- the name of the replica at which the event happens
abbrev pub replica_name : Event → List ℕ
replica_name (Edits name g text) = name
replica_name (EditsOver name g text given) = name
replica_name (Imports name file) = name
replica_name (Thins name) = name
replica_name (Summarizes name) = name
replica_name (Bundles name kept) = name
replica_name (Receives name k) = name
replica_name (ReceivesCut name k length) = name
replica_name (FindsNoMemory name) = name
