-- Commands in turn on one replica (this project's own rule): each is done on what the ones before
-- it made, and the first that is refused refuses them all.
use Rattle.std.specs.Prelude.{◌≡◌, ◌⊎◌, ℕ, suc, List, [], ◌∷◌, ◌++◌, length, map, take}
use Rattle.std.specs.Prelude.{Vec, Bool, true, false, Result, Ok, Err}
use Rattle.replica_state.specs.States.{State}
use Rattle.bundle_codec.specs.Reading.{AreBytes}
use Rattle.project_file.specs.declared.fault.LoadFault.{LoadFault}
use Rattle.project_file.specs.Projects.{project, front_at, project_at}
use Rattle.project_file.specs.Answers.{TakesMemoryAfter}
use Rattle.command_faults.specs.Faults.{of_loading}
use Rattle.usfm_cli.specs.Commands.{Done, outcome, is_late, MayWantMemory}
use Rattle.usfm_cli.specs.Projects.{Written, executed, file_after, state_after}
use Rattle.usfm_cli.specs.declared.command.Command.{Command}
use Rattle.command_faults.specs.declared.fault.Fault.{Fault}
use Rattle.command_faults.specs.declared.fault.Fault.TheVariants.{Memory}
use Rattle.usfm_cli.specs.declared.turns.TurnFault.{TurnFault}
use Rattle.usfm_cli.specs.declared.turns.TurnFault.TheVariants.{Project, Turn}

-- what there is after commands in turn, a replica or a project's file, and what each of them
-- writes, in their order
pub record InTurn (A : Type 0) : Type 0 where
  pub after : A
  pub outputs : List (List ℕ)

-- what a command writes, before what the ones after it do; one of them that is refused is one place
-- further on
abbrev pub after_one : {A : Type 0} → List ℕ →
    Result (InTurn A) TurnFault → Result (InTurn A) TurnFault
after_one output (Ok done) = Ok (record { after = done.after; outputs = output ∷ done.outputs })
after_one output (Err (Turn at fault)) = Err (Turn (suc at) fault)
after_one output (Err (Project fault)) = Err (Project fault)

-- a command and what is done on the replica after it, which is nothing where the command is refused
abbrev pub done_before : Result Done Fault → (State → Result (InTurn State) TurnFault) →
    Result (InTurn State) TurnFault
done_before (Ok done) later = after_one done.output (later done.after)
done_before (Err fault) later = Err (Turn 0 fault)

-- the replica after commands in turn with what they write; or the first that is refused, by the
-- number of those before it
abbrev pub in_turn : State → List Command → Result (InTurn State) TurnFault
in_turn s [] = Ok (record { after = s; outputs = [] })
in_turn s (command ∷ later) = done_before (outcome s command) (λ next. in_turn next later)

-- the file of the replica after commands in turn with what they write, or the refusal
abbrev pub written_in_turn : Result (InTurn State) TurnFault → Result (InTurn (List ℕ)) TurnFault
written_in_turn (Ok done) = Ok (record { after = project done.after; outputs = done.outputs })
written_in_turn (Err fault) = Err fault

-- what commands in turn make of a replica that was read, or why none was read
abbrev pub loaded_in_turn : Result State LoadFault → List Command →
    Result (InTurn (List ℕ)) TurnFault
loaded_in_turn (Ok s) commands = written_in_turn (in_turn s commands)
loaded_in_turn (Err fault) commands = Err (Project (of_loading fault))

-- What commands in turn make of a project's file: the file of the replica after the last, and what
-- each writes; or why the project is refused, or else the first command that is.
abbrev pub executed_in_turn : List ℕ → List Command → Result (InTurn (List ℕ)) TurnFault
executed_in_turn bytes commands = loaded_in_turn (project_at bytes) commands

-- ---- refusals, and out of memory

-- what a command may be refused for: what there is to refuse; or out of memory, where that may be
-- answered
abbrev pub RefusedFor : {T : Type 0} → (Fault → Bool) → Result T Fault → Fault → Type 0
RefusedFor late wanted Memory = MayWantMemory late wanted
RefusedFor late wanted fault = wanted ≡ Err fault

-- A command is refused in its turn: the commands before it, which are this many, are accepted, and
-- on what they made it may be refused for this by itself.
pub record RefusedIn (s : State) (commands : List Command) (at : ℕ) (fault : Fault) : Type 0 where
  pub before : List Command
  pub command : Command
  pub later : List Command
  pub stand : commands ≡ before ++ command ∷ later
  pub place : length before ≡ at
  pub done : InTurn State
  pub accepted : in_turn s before ≡ Ok done
  pub refused : RefusedFor (is_late command) (outcome done.after command) fault

-- the bytes that outputs have
abbrev pub bytes_of : {A : Type 0} → List (Vec ℕ A) → List (List ℕ)
bytes_of outputs = map (λ output. output.items) outputs

-- what a command writes, after what the ones before it wrote
abbrev pub with_output : List (List ℕ) → Result Done Fault → Result (InTurn State) Fault
with_output before (Ok done) =
    Ok (record { after = done.after; outputs = before ++ done.output ∷ [] })
with_output before (Err fault) = Err fault

-- What is answered of a command in its turn, where the replica and the outputs are then so: its
-- output comes after the others; or it is refused, and the outputs are those that there were.
abbrev pub AnswersTurn : (Fault → Bool) → Result Done Fault → List (List ℕ) → State →
    List (List ℕ) → Result (Unit {0}) Fault → Type 0
AnswersTurn late wanted before after outputs (Ok done) =
    with_output before wanted ≡ Ok (record { after = after; outputs = outputs })
AnswersTurn late wanted before after outputs (Err fault) =
    RefusedFor late wanted fault × (outputs ≡ before)

-- What is answered of commands in turn, where the replica is then so: what they write, or the first
-- that is refused.
abbrev pub AnswersInTurn : {A B : Type 0} → State → List Command → State →
    Result (Vec (Vec ℕ A) B) TurnFault → Type 0
AnswersInTurn s commands after (Ok outputs) =
    in_turn s commands ≡ Ok (record { after = after; outputs = bytes_of outputs.items })
AnswersInTurn s commands after (Err (Turn at fault)) = RefusedIn s commands at fault
AnswersInTurn s commands after (Err (Project fault)) = ⊥

-- What is answered of commands in turn on the file of a replica: what they make of it, or the first
-- that is refused; or out of memory in no turn, where the file is read or written.
abbrev pub AnswersFile : State → List Command → Result (InTurn (List ℕ)) TurnFault → Type 0
AnswersFile s commands (Ok made) = written_in_turn (in_turn s commands) ≡ Ok made
AnswersFile s commands (Err (Turn at fault)) = RefusedIn s commands at fault
AnswersFile s commands (Err (Project fault)) = fault ≡ Memory

-- A file that is no project is refused with its fault; or with out of memory, where memory is taken
-- to judge its bundle.
abbrev pub RefusesProject : {X : Type 0} → List ℕ → Fault → Result X TurnFault → Type 0
RefusesProject bytes fault answer =
    (answer ≡ Err (Project fault))
    ⊎ ((answer ≡ Err (Project Memory)) × TakesMemoryAfter (front_at bytes))

-- whether a fault is out of memory
abbrev pub is_memory : Fault → Bool
is_memory Memory = true
is_memory fault = false

-- the same of commands in turn, with or without a turn
abbrev pub is_of_memory : TurnFault → Bool
is_of_memory (Project fault) = is_memory fault
is_of_memory (Turn at fault) = is_memory fault

-- whether out of memory is answered
abbrev pub is_out_of_memory : {X : Type 0} → Result X TurnFault → Bool
is_out_of_memory (Ok x) = false
is_out_of_memory (Err fault) = is_of_memory fault

-- ---- the same, by commands one after another

-- a command and what is done on the file after it, which is nothing where the command is refused
abbrev pub written_before : Result Written Fault → (List ℕ → Result (InTurn (List ℕ)) TurnFault) →
    Result (InTurn (List ℕ)) TurnFault
written_before (Ok made) later = after_one made.output (later made.project)
written_before (Err fault) later = Err (Turn 0 fault)

-- what commands one after another make of a project's file, each on the file of the one before: the
-- last file and what they write, or the first that is refused
abbrev pub one_after_another : List ℕ → List Command → Result (InTurn (List ℕ)) TurnFault
one_after_another bytes [] = Ok (record { after = bytes; outputs = [] })
one_after_another bytes (command ∷ later) =
    written_before (executed bytes command) (λ next. one_after_another next later)

-- Commands in turn on a project are the same commands one after another, where each file on the way
-- is read again as the replica that the steps of the commands make.
abbrev pub InTurnIsOneAfterAnother : Type 0
InTurnIsOneAfterAnother =
    (bytes : List ℕ) (s : State) (commands : List Command) → AreBytes bytes →
    ((n : ℕ) → project_at (file_after bytes (take n commands))
    ≡ Ok (state_after s (take n commands))) →
    executed_in_turn bytes commands ≡ one_after_another bytes commands

-- Where commands one after another are all accepted, the project's file after them is that after
-- any commands of which a refused one leaves it as it is.
abbrev pub AcceptedIsFileAfter : Type 0
AcceptedIsFileAfter =
    (bytes : List ℕ) (commands : List Command) (made : InTurn (List ℕ)) →
    one_after_another bytes commands ≡ Ok made → file_after bytes commands ≡ made.after
