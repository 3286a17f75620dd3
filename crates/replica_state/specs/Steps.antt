-- The steps of a replica: what it is after a command, and what is answered (this project's own
-- rule, over the joining of states in INRIA RR-7506).
use Rattle.std.specs.Prelude.{ℕ, List, [], ◌∷◌, length, filter, Option, None, Some, Result, Ok, Err}
use Rattle.usfm_ref.specs.declared.segment.Segment.{Segment}
use Rattle.op_core.specs.Ids.{Id}
use Rattle.op_core.specs.Ops.{Operation}
use Rattle.op_core.specs.Sets.{join, clash}
use Rattle.op_core.specs.Thinned.{thin, is_left_out}
use Rattle.replica_state.specs.States.{State}
use Rattle.replica_state.specs.Receives.{lacked}
use Rattle.replica_state.specs.Edits.{edit_op, edit_over_op}
use Rattle.replica_state.specs.Imports.{import_ops}
use Rattle.replica_state.specs.declared.fault.EditFault.{EditFault}
use Rattle.replica_state.specs.declared.fault.ImportFault.{ImportFault}
use Rattle.replica_state.specs.declared.fault.ReceiveFault.{ReceiveFault}
use Rattle.replica_state.specs.declared.fault.ReceiveFault.TheVariants as receiving

-- what a replica may be told to do: to take in the operations of a bundle, to give a segment a
-- text, over all or over given ids, to take in a book's file, and to leave out the texts that were
-- replaced
pub data Command : Type 0 where
  Receive : (bundle : List Operation) → Command
  Edit : (g : Segment) (text : List ℕ) → Command
  EditOver : (g : Segment) (text : List ℕ) (given : List Id) → Command
  Import : (file : List ℕ) → Command
  Thin : Command

-- what is answered: how many operations are new, or the clash; the id that an edit made; how many
-- edits an import made; how many texts were left out
pub data Reply : Type 0 where
  Received : (answer : Result ℕ ReceiveFault) → Reply
  Edited : (answer : Result Id EditFault) → Reply
  Imported : (answer : Result ℕ ImportFault) → Reply
  Thinned : (count : ℕ) → Reply

-- a step of a replica: what it is after a command, and what is answered
pub record Step : Type 0 where
  pub after : State
  pub reply : Reply

-- the replica with operations more
abbrev pub with_ops : State → List Operation → State
with_ops s ops = record { name = s.name; held = join s.held ops }

-- the step of a bundle: its operations are joined to the held ones, unless the two clash
abbrev pub received : State → List Operation → Option Id → Step
received s bundle None = record {
  after = with_ops s bundle;
  reply = Received (Ok (length (lacked s.held bundle)));
}
received s bundle (Some id) = record { after = s; reply = Received (Err (receiving.Clash id)) }

-- the step of an edit: its operation is joined to the held ones, unless it is refused
abbrev pub edited : State → Result Operation EditFault → Step
edited s (Ok o) = record { after = with_ops s (o ∷ []); reply = Edited (Ok o.id) }
edited s (Err fault) = record { after = s; reply = Edited (Err fault) }

-- what a replica is after several edits, and what is answered: how many they are, or a fault
pub record EditsStep (F : Type 0) : Type 0 where
  pub after : State
  pub answer : Result ℕ F

-- The step of several edits: they are joined to what the replica holds, unless they are refused; it
-- is then as it was before.
abbrev pub edited_all : {F : Type 0} → State → State → Result (List Operation) F → EditsStep F
edited_all before s (Ok ops) = record { after = with_ops s ops; answer = Ok (length ops) }
edited_all before s (Err fault) = record { after = before; answer = Err fault }

-- the step of an import: its edits are joined to the held operations, unless it is refused
abbrev pub imported : State → Result (List Operation) ImportFault → Step
imported s edits = record {
  after = (edited_all s s edits).after;
  reply = Imported (edited_all s s edits).answer;
}

-- the replica without the texts of the operations that a held one of their segment names
abbrev pub without_replaced_texts : State → State
without_replaced_texts s = record { name = s.name; held = thin s.held }

-- the step of a thinning: it answers how many texts it left out, and is never refused
abbrev pub thinned : State → Step
thinned s = record {
  after = without_replaced_texts s;
  reply = Thinned (length (filter (is_left_out s.held) s.held));
}

-- the step of a command: what a replica is after it, and what it answers; a refused command changes
-- nothing
abbrev pub step : State → Command → Step
step s (Receive bundle) = received s bundle (clash s.held bundle)
step s (Edit g text) = edited s (edit_op s g text)
step s (EditOver g text given) = edited s (edit_over_op s g text given)
step s (Import file) = imported s (import_ops s file)
step s Thin = thinned s
