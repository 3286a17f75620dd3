-- Writing a delta, a summary, all operations or the thinned file out of the bytes of a project's file.
use Rattle.std.proofs.Common.{Bor, ◌≡◌, ◌≢◌, ℕ, List, Option, Some, None, Result, Ok, Err, IfOk, codes, refl, sym, ap, ◌∙◌}
use Rattle.std.specs.Fmt.{decimal}
use Rattle.bundle_codec.specs.declared.fault.SummaryFault.{SummaryFault}
use Rattle.bundle_codec.specs.declared.fault.SummaryFault.TheVariants as summing
use Rattle.bundle_codec.specs.Spelling.{bundle}
use Rattle.bundle_codec.specs.Summaries.{NameRanges, outside, summary, summary_of}
use Rattle.bundle_codec.specs.SummaryReading.{read_summary, ReadFails}
use Rattle.replica_state.specs.States.{State}
use Rattle.replica_state.specs.Steps as steps
use Rattle.project_file.specs.declared.fault.LoadFault.{LoadFault}
use Rattle.project_file.specs.Projects.{project, project_at}
use Rattle.project_file.proofs.Files.{read_once}
use Rattle.usfm_cli.specs.Commands.{line_of, reply_line, done_if, outcome, no_fault, MayWantMemory}
use Rattle.command_faults.specs.Faults.{of_summary}
use Rattle.usfm_cli.specs.Projects.{Written, written, of_loaded, executed, delta_done, delta_made, state_or}
use Rattle.usfm_cli.specs.declared.command.Command.{Command}
use Rattle.usfm_cli.specs.declared.command.Command.TheVariants.{Thin, Send, Summary, Delta}
use Rattle.command_faults.specs.declared.fault.Fault.{Fault}
use Rattle.command_faults.specs.declared.fault.Fault.TheVariants.{Memory}

-- what a delta makes of what was read, as the definition of all commands says it
pub delta_is : (read : Result State LoadFault) (summary : Bor (List ℕ))
    → of_loaded read (Delta summary) ≡ delta_made read (read_summary summary.now)
delta_is (Ok s) summary = refl
delta_is (Err fault) summary = refl

-- it leaves the replica as it is
pub stays : (s : State) (written : Result (List ℕ) Fault) → state_or s (done_if s written) ≡ s
stays s (Ok output) = refl
stays s (Err fault) = refl

-- so does a command whose answer gives the file back
pub file_stays : (file : List ℕ) (command : Command) → ((s : State) → state_or s (outcome s command) ≡ s) → (answer : Result Written Fault)
    → IfOk answer (λ made. made.project ≡ file)
    → IfOk answer (λ made. (s : State) → project_at file ≡ Ok s → project_at made.project ≡ Ok (state_or s (outcome s command)))
file_stays file command keeps (Ok made) same = λ s loads. ap project_at same ∙ loads ∙ ap Ok (sym (keeps s))
file_stays file command keeps (Err fault) same = tt

-- what holds of an answer holds of it under a condition
pub if_so : {A E : Type 0} (X : Type 0) (P : A → Type 0) (answer : Result A E) → IfOk answer P → IfOk answer (λ made. X → P made)
if_so X P (Ok made) h = λ x. h
if_so X P (Err fault) h = tt

pub makes_bundle : (file : List ℕ) (s : State) (output : List ℕ) → project_at file ≡ Ok s → file ≡ project s
    → output ≡ bundle s.held → executed file Send ≡ Ok (record { project = file; output = output })
makes_bundle file s output loads spelled e =
    ap (λ (read : Result State LoadFault). of_loaded read Send) loads
    ∙ (λ i. Ok (record { project = sym spelled i; output = sym e i }))

pub makes_summary : (file : List ℕ) (s : State) (output : List ℕ) (names : List NameRanges) → project_at file ≡ Ok s → file ≡ project s
    → names ≡ summary_of s.held → output ≡ summary names → executed file Summary ≡ Ok (record { project = file; output = output })
makes_summary file s output names loads spelled is e =
    ap (λ (read : Result State LoadFault). of_loaded read Summary) loads
    ∙ (λ i. Ok (record { project = sym spelled i; output = sym (e ∙ ap summary is) i }))

module _ (file : List ℕ) (s : State) (loads : project_at file ≡ Ok s) (count : ℕ)
    (counted : (steps.step s steps.Thin).reply ≡ steps.Thinned count) (line : List ℕ)
    (told : line ≡ line_of (codes "thinned") (decimal count)) where
  is_thinned : outcome s Thin ≡ Ok (record { after = (steps.step s steps.Thin).after; output = line })
  is_thinned =
      ap (λ reply. done_if (steps.step s steps.Thin).after (reply_line reply)) counted
      ∙ (λ i. Ok (record { after = (steps.step s steps.Thin).after; output = sym told i }))

  pub makes_thinned : (made : List ℕ) → made ≡ project (steps.step s steps.Thin).after
      → executed file Thin ≡ Ok (record { project = made; output = line })
  makes_thinned made spelled =
      ap (λ (read : Result State LoadFault). of_loaded read Thin) loads ∙ ap written is_thinned
      ∙ (λ i. Ok (record { project = sym spelled i; output = line }))

  pub thinned_after : (made : List ℕ) → project_at made ≡ Ok (steps.step s steps.Thin).after → (t : State) → project_at file ≡ Ok t
      → project_at made ≡ Ok (state_or t (outcome t Thin))
  thinned_after made again t e =
      again ∙ ap (λ d. Ok (state_or s d)) (sym is_thinned)
      ∙ ap (λ (u : State). Ok (state_or u (outcome u Thin))) (read_once file s t loads e)

module _ (file bytes : List ℕ) (s : State) (loads : project_at file ≡ Ok s) where
  pub makes_delta : (known : List NameRanges) (output : List ℕ) → read_summary bytes ≡ Some known → file ≡ project s
      → output ≡ bundle (outside known s.held)
      → delta_made (project_at file) (read_summary bytes) ≡ Ok (record { project = file; output = output })
  makes_delta known output exact spelled e =
      (λ i. delta_made (loads i) (exact i)) ∙ (λ i. Ok (record { project = sym spelled i; output = sym e i }))

  pub summary_refused : (fault : SummaryFault) → ReadFails (read_summary bytes) fault → of_summary fault ≢ Memory
      → delta_made (project_at file) (read_summary bytes) ≡ Err (of_summary fault)
  summary_refused summing.Memory r other = absurd (other refl)
  summary_refused summing.BadSummary r other = λ i. delta_made (loads i) (r i)

-- memory may be wanted where there is a summary
pub summary_wants : (s : State) (known : Option (List NameRanges)) (fault : SummaryFault) → ReadFails known fault
    → of_summary fault ≡ Memory → MayWantMemory no_fault (delta_done s known)
summary_wants s (Some known) fault r e = tt
summary_wants s None summing.Memory r e = cc r
summary_wants s None summing.BadSummary r e = cc e
