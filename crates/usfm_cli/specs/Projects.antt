-- What commands make of a project's file (this project's own rule): the file is read, the command
-- is done, and the file of the replica after it is written.
use Rattle.std.specs.Prelude.{◌≡◌, ◌⊎◌, ℕ, List, [], ◌∷◌, Vec, Option, Some, None, Result, Ok, Err}
use Rattle.op_core.specs.Ops.{Operation}
use Rattle.bundle_codec.specs.declared.fault.WholeFault.{WholeFault}
use Rattle.bundle_codec.specs.Summaries.{NameRanges}
use Rattle.replica_state.specs.States.{State}
use Rattle.project_file.specs.declared.fault.LoadFault.{LoadFault}
use Rattle.project_file.specs.Projects.{project, front_at, project_at}
use Rattle.project_file.specs.Answers.{TakesMemoryAfter}
use Rattle.command_faults.specs.Faults.{of_loading}
use Rattle.usfm_cli.specs.Commands.{Done, done_if, with_bundle, delta_for, outcome}
use Rattle.usfm_cli.specs.declared.command.Command.{Command}
use Rattle.command_faults.specs.declared.fault.Fault.{Fault}
use Rattle.command_faults.specs.declared.fault.Fault.TheVariants.{Memory}

-- the project's file after a command, and what the command writes
pub record Written : Type 0 where
  pub project : List ℕ
  pub output : List ℕ

-- the file that is written anew, or else the one that was given
abbrev pub file_of : {A : Type 0} → List ℕ → Option (Vec ℕ A) → List ℕ
file_of given None = given
file_of given (Some made) = made.items

-- the file of the replica after a command with what the command writes, or the refusal
abbrev pub written : Result Done Fault → Result Written Fault
written (Ok d) = Ok (record { project = project d.after; output = d.output })
written (Err fault) = Err fault

-- what a command makes of a replica that was read, or why none was read
abbrev pub of_loaded : Result State LoadFault → Command → Result Written Fault
of_loaded (Ok s) command = written (outcome s command)
of_loaded (Err fault) command = Err (of_loading fault)

-- what a command makes of a project's file: the file of the replica after it, and what it writes;
-- or why it is refused
abbrev pub executed : List ℕ → Command → Result Written Fault
executed bytes command = of_loaded (project_at bytes) command

-- what a receive makes of a replica that was read, and of the set of a bundle; or why one of the
-- two was not read, the replica first
abbrev pub received : Result State LoadFault → Result (List Operation) WholeFault
    → Result Written Fault
received (Ok s) bundle = written (with_bundle s bundle)
received (Err fault) bundle = Err (of_loading fault)

-- what a replica writes for a summary, or that there is none
abbrev pub delta_done : State → Option (List NameRanges) → Result Done Fault
delta_done s known = done_if s (delta_for s.held known)

-- what a delta makes of a replica that was read, or why none was read
abbrev pub delta_made : Result State LoadFault → Option (List NameRanges) → Result Written Fault
delta_made (Ok s) known = written (delta_done s known)
delta_made (Err fault) known = Err (of_loading fault)

-- A file that is no project is refused with its fault; or with out of memory, where memory is taken
-- to judge its bundle.
abbrev pub RefusesFile : {X : Type 0} → List ℕ → Fault → Result X Fault → Type 0
RefusesFile bytes fault answer =
    (answer ≡ Err fault) ⊎ ((answer ≡ Err Memory) × TakesMemoryAfter (front_at bytes))

-- ---- commands one after another

-- a project's file after a command, which a refused command leaves as it is
abbrev pub file_or : List ℕ → Result Written Fault → List ℕ
file_or bytes (Ok w) = w.project
file_or bytes (Err fault) = bytes

-- a project's file after commands, in their order, of which a refused one leaves it as it is
abbrev pub file_after : List ℕ → List Command → List ℕ
file_after bytes [] = bytes
file_after bytes (command ∷ later) = file_after (file_or bytes (executed bytes command)) later

-- a replica after a command, which a refused command leaves as it is
abbrev pub state_or : State → Result Done Fault → State
state_or s (Ok d) = d.after
state_or s (Err fault) = s

-- a replica after commands, in their order, of which a refused one leaves it as it is
abbrev pub state_after : State → List Command → State
state_after s [] = s
state_after s (command ∷ later) = state_after (state_or s (outcome s command)) later
