-- What a project writes for the summary that another one wrote.
use Rattle.std.proofs.Common.{◌≡◌, ◌<◌, ◌^◌, ℕ, List, length, codes, Some, Ok, IsTrue, refl, sym, ap, ◌∙◌, arith}
use Rattle.std.specs.Borrow.{Bor}
use Rattle.std.specs.Fmt.{decimal}
use Rattle.op_core.specs.Ops.{Operation}
use Rattle.op_core.specs.Sets.{IsOpSet, join}
use Rattle.op_core.specs.Thinned.{all_full}
use Rattle.bundle_codec.specs.Spelling.{bundle}
use Rattle.bundle_codec.specs.Joining.{whole_at}
use Rattle.bundle_codec.specs.Summaries.{SpellsSummary, summary, summary_of, outside}
use Rattle.bundle_codec.specs.SummaryReading.{read_summary, summary_at}
use Rattle.bundle_codec.proofs.Deltas.{outside_legal}
use Rattle.bundle_codec.proofs.Outside.{outside_set}
use Rattle.bundle_codec.proofs.SummaryWholes.{spelled_read, read_gives}
use Rattle.bundle_codec.proofs.Told.{summary_of_is}
use Rattle.bundle_codec.proofs.Wholes.{whole_reads}
use Rattle.replica_state.specs.Receives.{lacked}
use Rattle.replica_state.specs.States.{State, IsState}
use Rattle.replica_state.proofs.DeltasJoined.{delta_joined}
use Rattle.project_file.specs.Projects.{project, project_at}
use Rattle.usfm_cli.specs.Commands.{line_of, delta_for, done, done_if, with_bundle}
use Rattle.usfm_cli.specs.Projects.{executed, of_loaded, written}
use Rattle.usfm_cli.specs.ExecLaws.{output_of}
use Rattle.usfm_cli.specs.declared.command.Command.TheVariants.{Receive, Summary, Delta}

-- the summary that a project writes is read as it
pub summary_again : (held : List Operation) → IsOpSet held → length (summary (summary_of held)) < 2 ^ 64
    → read_summary (summary (summary_of held)) ≡ Some (summary_of held)
summary_again held set short =
    let form = (summary_of_is held set).form in
    let spells : SpellsSummary (summary (summary_of held)) = record { names = summary_of held; form = form; spelled = refl } in
    read_gives (summary_at (summary (summary_of held))) (summary_of held) _ refl (spelled_read (summary (summary_of held)) short spells)

module _ (file other : List ℕ) (s t : State) (asked : Bor (List ℕ)) (own : project_at file ≡ Ok s) (theirs : project_at other ≡ Ok t)
    (state : IsState t) (wrote : output_of (executed other Summary) ≡ Ok asked.now) (short : length asked.now < 2 ^ 64) where
  asked_is : asked.now ≡ summary (summary_of t.held)
  asked_is =
      let is = ap (λ r. output_of (of_loaded r Summary)) theirs in
      let same : Ok (summary (summary_of t.held)) ≡ Ok asked.now = sym is ∙ wrote in cc same

  asked_read : read_summary asked.now ≡ Some (summary_of t.held)
  asked_read = ap read_summary asked_is ∙ summary_again t.held state.set (omega (arith, ap length asked_is))

  pub delta_answers : output_of (executed file (Delta asked)) ≡ Ok (bundle (outside (summary_of t.held) s.held))
  delta_answers =
      ap (λ r. output_of (of_loaded r (Delta asked))) own
      ∙ ap (λ r. output_of (written (done_if s (delta_for s.held r)))) asked_read

  module _ (sent : Bor (List ℕ)) (held : IsState s) (full : IsTrue (all_full s.held))
      (answered : output_of (executed file (Delta asked)) ≡ Ok sent.now) (fits : length sent.now < 2 ^ 64) where
    sent_is : sent.now ≡ bundle (outside (summary_of t.held) s.held)
    sent_is = let same : Ok (bundle (outside (summary_of t.held) s.held)) ≡ Ok sent.now = sym delta_answers ∙ answered in cc same

    sent_read : whole_at sent.now ≡ Ok (outside (summary_of t.held) s.held)
    sent_read = whole_reads sent.now (record {
      ops = outside (summary_of t.held) s.held;
      set = outside_set (summary_of t.held) s.held held.set;
      legal = outside_legal s.held (summary_of t.held) held.set held.legal;
      spelled = sent_is;
      short = fits;
    })

    pub delta_brings : executed other (Receive sent) ≡ Ok (record {
      project = project (record { name = t.name; held = join t.held s.held });
      output = line_of (codes "new") (decimal (length (lacked t.held s.held)));
    })
    delta_brings =
        ap (λ r. of_loaded r (Receive sent)) theirs
        ∙ ap (λ r. written (with_bundle t r)) sent_read
        ∙ ap (λ taken. written (done taken))
        (delta_joined t s (summary_of t.held) state held full (summary_of_is t.held state.set))
