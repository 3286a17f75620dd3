-- What replicas that accepted the same operations write (this project's own rule, over the
-- convergence of states in INRIA RR-7506): projects under commands, and streams of bundles.
use Rattle.std.specs.Prelude.{◌≡◌, ℕ, List, [], None, Result, Ok}
use Rattle.op_core.specs.Ops.{Operation}
use Rattle.op_core.specs.Sets.{clash}
use Rattle.op_core.specs.Thinned.{skeleton}
use Rattle.bundle_codec.specs.Reading.{AreBytes}
use Rattle.replica_state.specs.States.{State}
use Rattle.project_file.specs.Projects.{project_at}
use Rattle.usfm_cli.specs.Streams.{union_in, book_of_stream}
use Rattle.usfm_cli.specs.Projects.{executed, file_after}
use Rattle.usfm_cli.specs.ExecLaws.{output_of}
use Rattle.usfm_cli.specs.declared.command.Command.{Command}
use Rattle.usfm_cli.specs.declared.command.Command.TheVariants.{Export, Report}
use Rattle.command_faults.specs.declared.fault.Fault.{Fault}

-- a replica: a project's file, to which commands were given one after another, or a stream of
-- bundles
pub data Replica : Type 0 where
  Project : (file : List ℕ) (commands : List Command) → Replica
  Stream : (input : List ℕ) → Replica

-- the project's file after the commands is that of a replica which holds these operations
pub record ProjectHolds (file : List ℕ) (commands : List Command)
    (held : List Operation) : Type 0 where
  pub state : State
  pub bytes : AreBytes (file_after file commands)
  pub reads : project_at (file_after file commands) ≡ Ok state
  pub is_held : state.held ≡ held

-- the stream's bundles, each joined after the one before, make this union
pub record StreamHolds (input : List ℕ) (held : List Operation) : Type 0 where
  pub bytes : AreBytes input
  pub union : union_in [] input ≡ Ok held

-- the operations that a replica accepted, whatever else it refused
abbrev pub Accepted : Replica → List Operation → Type 0
Accepted (Project file commands) held = ProjectHolds file commands held
Accepted (Stream input) held = StreamHolds input held

-- what a replica writes for a book: its bytes, or that it has no operation
abbrev pub book_of : Replica → List ℕ → Result (List ℕ) Fault
book_of (Project file commands) book = output_of (executed (file_after file commands) (Export book))
book_of (Stream input) book = book_of_stream book input

-- Replicas that accepted the same operations but for texts left out, in whatever order, grouping
-- and repetition, write the same bytes of every book, or refuse it alike, if no id has two
-- operations.
abbrev pub SameOperationsSameBytes : Type 0
SameOperationsSameBytes =
    (one other : Replica) (held also : List Operation) → Accepted one held → Accepted other also →
    skeleton held ≡ skeleton also → clash held also ≡ None →
    (book : List ℕ) → book_of one book ≡ book_of other book

-- Those of them that are projects write the same conflict report.
abbrev pub SameOperationsSameReport : Type 0
SameOperationsSameReport =
    (file other : List ℕ) (commands others : List Command) (held also : List Operation) →
    ProjectHolds file commands held → ProjectHolds other others also →
    skeleton held ≡ skeleton also → clash held also ≡ None →
    output_of (executed (file_after file commands) Report)
    ≡ output_of (executed (file_after other others) Report)
