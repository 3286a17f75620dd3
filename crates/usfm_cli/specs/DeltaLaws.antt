-- Laws of summaries and deltas that travel as bytes (this project's own rule).
use Rattle.std.specs.Prelude.{◌≡◌, ◌<◌, ◌^◌, ℕ, List, length, Some, Ok, codes, IsTrue}
use Rattle.std.specs.Borrow.{Bor}
use Rattle.std.specs.Fmt.{decimal}
use Rattle.op_core.specs.Ops.{Operation}
use Rattle.op_core.specs.Sets.{IsOpSet, join}
use Rattle.op_core.specs.Thinned.{all_full}
use Rattle.bundle_codec.specs.Spelling.{bundle}
use Rattle.bundle_codec.specs.Summaries.{summary, summary_of, outside}
use Rattle.bundle_codec.specs.SummaryReading.{read_summary}
use Rattle.replica_state.specs.States.{State, IsState}
use Rattle.replica_state.specs.Receives.{lacked}
use Rattle.project_file.specs.Projects.{project, project_at}
use Rattle.usfm_cli.specs.Commands.{line_of}
use Rattle.usfm_cli.specs.Projects.{executed}
use Rattle.usfm_cli.specs.ExecLaws.{output_of}
use Rattle.usfm_cli.specs.declared.command.Command.TheVariants.{Receive, Summary, Delta}

-- The summary of a set is read as the summary that was written, in bytes that a slice can have.
abbrev pub SummariesAreRead : Type 0
SummariesAreRead =
    (held : List Operation) → IsOpSet held → length (summary (summary_of held)) < 2 ^ 64 →
    read_summary (summary (summary_of held)) ≡ Some (summary_of held)

-- A project that is given the summary which another one wrote refuses it never, and writes the
-- bundle of what it holds outside that summary.
abbrev pub DeltasAnswerSummaries : Type 0
DeltasAnswerSummaries =
    (file other : List ℕ) (s t : State) (asked : Bor (List ℕ)) →
    project_at file ≡ Ok s → project_at other ≡ Ok t → IsState t →
    output_of (executed other Summary) ≡ Ok asked.now → length asked.now < 2 ^ 64 →
    output_of (executed file (Delta asked)) ≡ Ok (bundle (outside (summary_of t.held) s.held))

-- The other project, given what is written so by one without thinned operations, holds the union of
-- both sets, and counts as new what it lacked.
abbrev pub DeltasBringUnion : Type 0
DeltasBringUnion =
    (file other : List ℕ) (s t : State) (asked sent : Bor (List ℕ)) →
    project_at file ≡ Ok s → project_at other ≡ Ok t →
    IsState s → IsState t → IsTrue (all_full s.held) →
    output_of (executed other Summary) ≡ Ok asked.now → length asked.now < 2 ^ 64 →
    output_of (executed file (Delta asked)) ≡ Ok sent.now → length sent.now < 2 ^ 64 →
    executed other (Receive sent) ≡ Ok (record {
      project = project (record { name = t.name; held = join t.held s.held });
      output = line_of (codes "new") (decimal (length (lacked t.held s.held)));
    })
