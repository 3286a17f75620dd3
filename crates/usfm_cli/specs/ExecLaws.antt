-- Laws of projects under commands (this project's own rule).
use Rattle.std.specs.Prelude.{◌≡◌, ℕ, List, [], None, Result, Ok, Err}
use Rattle.std.specs.List.{Contains, AllByRecursion}
use Rattle.op_core.specs.Laws.{IsAmong}
use Rattle.op_core.specs.Ids.{Id}
use Rattle.op_core.specs.Ops.{Operation}
use Rattle.op_core.specs.Sets.{clash}
use Rattle.op_core.specs.Lists.{is_held}
use Rattle.op_core.specs.Thinned.{skeleton, IsOf}
use Rattle.replica_state.specs.States.{State, IsState}
use Rattle.project_file.specs.Projects.{project_at}
use Rattle.usfm_cli.specs.Streams.{AreSpelled, union_in, book_of_stream}
use Rattle.usfm_cli.specs.StreamLaws.{one_holds}
use Rattle.usfm_cli.specs.Projects.{Written, executed, file_after}
use Rattle.usfm_cli.specs.declared.command.Command.{Command}
use Rattle.usfm_cli.specs.declared.command.Command.TheVariants.{Export, Report}
use Rattle.command_faults.specs.declared.fault.Fault.{Fault}

-- what a command writes, or its refusal
abbrev pub output_of : Result Written Fault → Result (List ℕ) Fault
output_of (Ok w) = Ok w.output
output_of (Err fault) = Err fault

-- two replicas hold the same operations
pub record HoldTheSame (s t : State) : Type 0 where
  pub there : (o : Operation) → Contains s.held o → Contains t.held o
  pub back : (o : Operation) → Contains t.held o → Contains s.held o

-- the same is written for both files: each book, or that it has no operation, and the conflict
-- report
pub record ReadTheSame (file other : List ℕ) : Type 0 where
  pub books : (book : List ℕ) →
      output_of (executed file (Export book)) ≡ output_of (executed other (Export book))
  pub report : output_of (executed file Report) ≡ output_of (executed other Report)

-- A project, after a list of commands, and a stream of bundles of which none is refused write the
-- same bytes of every book, or refuse it alike, where the stream's bundles have together the
-- operations that the project holds, thinned ones as thinned.
abbrev pub ProjectsReadAsStreams : Type 0
ProjectsReadAsStreams =
    (file : List ℕ) (commands : List Command) (s : State) (sets : List (List Operation))
    (input : List ℕ) (union : List Operation) →
    project_at (file_after file commands) ≡ Ok s → IsState s → AreSpelled sets input →
    union_in [] input ≡ Ok union →
    ((o : Operation) → Contains s.held o → IsAmong sets o) →
    ((o : Operation) → IsAmong sets o → Contains s.held o) →
    (book : List ℕ) →
    output_of (executed (file_after file commands) (Export book)) ≡ book_of_stream book input

-- Two projects, each after a list of commands, read the same where they then hold the same
-- operations, in whatever order, grouping and repetition these were accepted, and whatever was
-- refused.
abbrev pub SameOperationsReadTheSame : Type 0
SameOperationsReadTheSame =
    (file other : List ℕ) (commands others : List Command) (s t : State) →
    project_at (file_after file commands) ≡ Ok s → project_at (file_after other others) ≡ Ok t →
    IsState s → IsState t → HoldTheSame s t →
    ReadTheSame (file_after file commands) (file_after other others)

-- ---- the same but for texts left out: a thinned operation counts as the one that it was

-- Two projects, each after a list of commands, read the same where they then hold the same but for
-- texts left out, and no id has two operations.
abbrev pub SkeletonsReadTheSame : Type 0
SkeletonsReadTheSame =
    (file other : List ℕ) (commands others : List Command) (s t : State) →
    project_at (file_after file commands) ≡ Ok s → project_at (file_after other others) ≡ Ok t →
    IsState s → IsState t → skeleton s.held ≡ skeleton t.held → clash s.held t.held ≡ None →
    ReadTheSame (file_after file commands) (file_after other others)

-- Two projects, each after a list of commands, read the same where they then hold operations of one
-- family, in which no id has two operations, of the same ids; whatever order, grouping and
-- repetition they were accepted in, whatever was refused, and whatever texts are left out.
abbrev pub SameIdsReadAlike : Type 0
SameIdsReadAlike =
    (family : Id → Operation) (file other : List ℕ) (commands others : List Command) (s t : State) →
    project_at (file_after file commands) ≡ Ok s → project_at (file_after other others) ≡ Ok t →
    IsOf family s.held → IsOf family t.held → ((id : Id) → is_held s.held id ≡ is_held t.held id) →
    ReadTheSame (file_after file commands) (file_after other others)

-- A project, after a list of commands, and a stream of bundles write the same bytes of every book,
-- or refuse it alike, where both are of one family, and the stream's bundles have together the ids
-- that the project holds; whatever texts are left out.
abbrev pub ThinnedProjectsReadAsStreams : Type 0
ThinnedProjectsReadAsStreams =
    (family : Id → Operation) (file : List ℕ) (commands : List Command) (s : State)
    (sets : List (List Operation)) (input : List ℕ) →
    project_at (file_after file commands) ≡ Ok s → IsOf family s.held →
    AreSpelled sets input → AllByRecursion (IsOf family) sets →
    ((id : Id) → is_held s.held id ≡ one_holds sets id) →
    (book : List ℕ) →
    output_of (executed (file_after file commands) (Export book)) ≡ book_of_stream book input
