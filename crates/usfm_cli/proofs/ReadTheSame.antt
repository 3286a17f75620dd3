-- Projects that hold the same operations read the same.
use Rattle.std.proofs.Common.{◌≡◌, ℕ, List, [], Result, Ok, Err, refl, sym, ap, ◌∙◌}
use Rattle.op_core.specs.Laws.Joining.{Part}
use Rattle.op_core.specs.Ops.{Operation}
use Rattle.std.specs.List.{Contains}
use Rattle.op_core.specs.Laws.{IsAmong}
use Rattle.op_core.proofs.Sets.Joinings.{same_unions}
use Rattle.op_core.proofs.Sets.Together.{set_from_none}
use Rattle.usfm_cli.specs.Streams.{AreSpelled, union_in, book_from, book_of_stream}
use Rattle.usfm_cli.proofs.StreamLemmas.{are_sets, union_joined, gives_union}
use Rattle.replica_state.specs.States.{State, IsState}
use Rattle.project_file.specs.Projects.{project_at}
use Rattle.conflict_report.specs.Reports.{report}
use Rattle.usfm_cli.specs.Commands.{done_if, export_text}
use Rattle.usfm_cli.specs.Projects.{written, of_loaded, executed}
use Rattle.usfm_cli.specs.ExecLaws.{output_of, HoldTheSame, ReadTheSame}
use Rattle.usfm_cli.specs.declared.command.Command.TheVariants.{Export, Report}
use Rattle.command_faults.specs.declared.fault.Fault.{Fault}

same_held : (s t : State) → IsState s → IsState t → HoldTheSame s t → s.held ≡ t.held
same_held s t hs ht same =
    same_unions (Part s.held) (Part t.held) s.held t.held hs.set ht.set (record { there = same.there; back = same.back }) refl refl

-- what a command that only reports writes is what it reports
told_is_written : (s : State) (r : Result (List ℕ) Fault) → output_of (written (done_if s r)) ≡ r
told_is_written s (Ok text) = refl
told_is_written s (Err fault) = refl

-- what is written for a project's file is what is reported of the operations that the project holds
pub exported : (file : List ℕ) (s : State) (book : List ℕ) → project_at file ≡ Ok s →
    output_of (executed file (Export book)) ≡ export_text s.held book
exported file s book loads = ap (λ r. output_of (of_loaded r (Export book))) loads ∙ told_is_written s (export_text s.held book)

-- what the command of the report writes of a project that is read
pub reported : (file : List ℕ) (s : State) → project_at file ≡ Ok s → output_of (executed file Report) ≡ Ok (report s.held)
reported file s loads = ap (λ r. output_of (of_loaded r Report)) loads

-- a project and a stream with the same operations
pub read_as_stream : (file : List ℕ) (s : State) (sets : List (List Operation)) (input : List ℕ) (union : List Operation) →
    project_at file ≡ Ok s → IsState s → AreSpelled sets input → union_in [] input ≡ Ok union
    → ((o : Operation) → Contains s.held o → IsAmong sets o) → ((o : Operation) → IsAmong sets o → Contains s.held o) → (book : List ℕ) →
    output_of (executed file (Export book)) ≡ book_of_stream book input
read_as_stream file s sets input union loads hs spelled e there back book =
    let same : s.held ≡ union = set_from_none s.held sets union hs.set (are_sets sets spelled.each) there back
    (union_joined (Part []) [] sets union refl (sym (gives_union sets input spelled) ∙ e)) in
    exported file s book loads ∙ ap (λ (held : List Operation). export_text held book) same ∙ sym (ap (book_from book) e)

-- projects that hold the same operations read the same
pub same_operations : (file other : List ℕ) (s t : State) → project_at file ≡ Ok s → project_at other ≡ Ok t → IsState s → IsState t →
    HoldTheSame s t → ReadTheSame file other
same_operations file other s t loads loaded hs ht same =
    let held = same_held s t hs ht same in
    record {
      books = λ book. exported file s book loads ∙ ap (λ (held : List Operation). export_text held book) held
          ∙ sym (exported other t book loaded);
      report = reported file s loads ∙ ap (λ (held : List Operation). Ok (report held)) held ∙ sym (reported other t loaded);
    }
