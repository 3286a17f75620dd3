-- Taking a bundle in on the bytes of a project's file.
use Rattle.std.proofs.Common.{Bor, ◌≡◌, ◌≢◌, ℕ, true, not, List, length, Option, Some, None, Result, Ok, Err, codes, refl, sym, ap, ◌∙◌}
use Rattle.std.specs.Fmt.{decimal}
use Rattle.op_core.specs.Ids.{Id}
use Rattle.op_core.specs.Ops.{Operation}
use Rattle.op_core.specs.Sets.{clash}
use Rattle.bundle_codec.specs.declared.fault.BundleFault.TheVariants as bundle_faults
use Rattle.bundle_codec.specs.declared.fault.WholeFault.{WholeFault}
use Rattle.bundle_codec.specs.declared.fault.WholeFault.TheVariants as whole
use Rattle.bundle_codec.specs.declared.fault.JoinFault.{JoinFault}
use Rattle.bundle_codec.specs.declared.fault.JoinFault.TheVariants as joining
use Rattle.bundle_codec.specs.Reading.{fields_at, TakesMemory}
use Rattle.bundle_codec.specs.Joining.{whole_if, whole_at, RefusesWhole, RefusesUnion}
use Rattle.replica_state.specs.Receives.{lacked}
use Rattle.replica_state.specs.States.{State}
use Rattle.replica_state.specs.Steps as steps
use Rattle.project_file.specs.declared.fault.LoadFault.{LoadFault}
use Rattle.project_file.specs.Projects.{project, project_at}
use Rattle.project_file.proofs.Files.{read_once}
use Rattle.usfm_cli.specs.Commands.{Done, line_of, done, with_bundle, has_thinned, is_late_in, MayWantMemory}
use Rattle.command_faults.specs.Faults.{of_whole, of_joining}
use Rattle.usfm_cli.specs.Projects.{written, of_loaded, received, state_or}
use Rattle.usfm_cli.specs.declared.command.Command.TheVariants.{Receive}
use Rattle.command_faults.specs.declared.fault.Fault.{Fault}
use Rattle.command_faults.specs.declared.fault.Fault.TheVariants.{Memory, NotText, Reference, NoId, FieldBeforeMarker, EmptyMarker, BadStyleType, BadVersification}
use Rattle.command_faults.specs.declared.fault.Fault.TheVariants.{Naming, Clash, Bundle, Trailing, BadSummary, BadSeal, BadSegment, NumbersUsedUp, NoBook}
use Rattle.command_faults.specs.declared.fault.Fault.TheVariants.{NotShown, LeftOut, BadAnswers, WriteFailed, EmptyNeedle, BadProject, ReadFailed, TooLong}
use Rattle.command_faults.specs.declared.fault.Fault.TheVariants.{FileFailed, FileChanged, Emptied, Undone, Unlike, SettledEarly}

-- what a receive makes of what was read, as the definition of all commands says it
pub received_is : (read : Result State LoadFault) (bytes : Bor (List ℕ))
    → of_loaded read (Receive bytes) ≡ received read (whole_at bytes.now)
received_is (Ok s) bytes = refl
received_is (Err fault) bytes = refl

-- ---- what is made

module _ (file bytes : List ℕ) (s : State) (given : List Operation) (loads : project_at file ≡ Ok s)
    (exact : whole_at bytes ≡ Ok given) where
  both_read : received (project_at file) (whole_at bytes) ≡ written (with_bundle s (Ok given))
  both_read = λ i. received (loads i) (exact i)

  clashes : (id : Id) → clash s.held given ≡ Some id → received (project_at file) (whole_at bytes) ≡ Err (Clash id)
  clashes id e = both_read ∙ ap (λ found. written (done (steps.received s given found))) e

  -- a refusal is out of memory, or the clash
  pub union_refused : (fault : JoinFault) → RefusesUnion (clash s.held given) fault → of_joining fault ≢ Memory
      → received (project_at file) (whole_at bytes) ≡ Err (of_joining fault)
  union_refused joining.Memory r other = absurd (other refl)
  union_refused (joining.Bundle fault) r other = absurd r
  union_refused (joining.Clash id) r other = clashes id r

  module _ (count : ℕ) (none : clash s.held given ≡ None) (new : count ≡ length (lacked s.held given)) (line : List ℕ)
      (told : line ≡ line_of (codes "new") (decimal count)) where
    is_done : with_bundle s (Ok given) ≡ Ok (record { after = steps.with_ops s given; output = line })
    is_done =
        ap (λ found. done (steps.received s given found)) none
        ∙ (λ i. Ok (record {
          after = steps.with_ops s given;
          output = sym (told ∙ ap (λ (n : ℕ). line_of (codes "new") (decimal n)) new) i;
        }))

    pub makes : (made : List ℕ) → made ≡ project (steps.with_ops s given)
        → received (project_at file) (whole_at bytes) ≡ Ok (record { project = made; output = line })
    makes made spelled = both_read ∙ ap written is_done ∙ (λ i. Ok (record { project = sym spelled i; output = line }))

    pub is_after : (made : List ℕ) → project_at made ≡ Ok (steps.with_ops s given) → (t : State) → project_at file ≡ Ok t
        → project_at made ≡ Ok (state_or t (with_bundle t (whole_at bytes)))
    is_after made again t e =
        again ∙ ap (λ d. Ok (state_or s d)) (sym (ap (with_bundle s) exact ∙ is_done))
        ∙ ap (λ (u : State). Ok (state_or u (with_bundle u (whole_at bytes)))) (read_once file s t loads e)

-- ---- refusals, and out of memory

module _ (bytes : List ℕ) where
  late_fault : (fault : Fault) → has_thinned (fields_at bytes) ≡ true → is_late_in bytes fault ≡ true
  late_fault (Clash id) h = refl
  late_fault Memory h = h
  late_fault (NotText valid) h = h
  late_fault (Reference fault) h = h
  late_fault NoId h = h
  late_fault (FieldBeforeMarker line) h = h
  late_fault (EmptyMarker line) h = h
  late_fault (BadStyleType line) h = h
  late_fault (BadVersification line) h = h
  late_fault (Naming fault) h = h
  late_fault (Bundle fault) h = h
  late_fault Trailing h = h
  late_fault BadSummary h = h
  late_fault BadSeal h = h
  late_fault BadSegment h = h
  late_fault NumbersUsedUp h = h
  late_fault NoBook h = h
  late_fault (NotShown id) h = h
  late_fault (LeftOut id) h = h
  late_fault (BadAnswers line) h = h
  late_fault (WriteFailed gone) h = h
  late_fault EmptyNeedle h = h
  late_fault BadProject h = h
  late_fault ReadFailed h = h
  late_fault TooLong h = h
  late_fault FileFailed h = h
  late_fault FileChanged h = h
  late_fault (Emptied count) h = h
  late_fault (Undone count) h = h
  late_fault (Unlike count) h = h
  late_fault SettledEarly h = h

  -- where memory is taken to judge the bundle, it may be wanted whatever comes of the command
  pub judging_wants : {T : Type 0} (r : Result T Fault) → TakesMemory bytes → MayWantMemory (is_late_in bytes) r
  judging_wants (Ok d) t = tt
  judging_wants (Err fault) t = late_fault fault (ap has_thinned t.read ∙ ap not t.thinned)

  -- a bundle that is refused is refused for what is wrong with it
  pub bundle_refused : (file : List ℕ) (s : State) (fault : WholeFault) → project_at file ≡ Ok s → RefusesWhole bytes fault
      → of_whole fault ≢ Memory → received (project_at file) (whole_at bytes) ≡ Err (of_whole fault)
  bundle_refused file s whole.Trailing loads r other = λ i. received (loads i) (r i)
  bundle_refused file s (whole.Bundle bundle_faults.Memory) loads r other = absurd (other refl)
  bundle_refused file s (whole.Bundle bundle_faults.Magic) loads r other = λ i. received (loads i) (whole_if (r i))
  bundle_refused file s (whole.Bundle bundle_faults.Truncated) loads r other = λ i. received (loads i) (whole_if (r i))
  bundle_refused file s (whole.Bundle (bundle_faults.NotRising at)) loads r other = λ i. received (loads i) (whole_if (r i))
  bundle_refused file s (whole.Bundle (bundle_faults.BadId at)) loads r other = λ i. received (loads i) (whole_if (r i))
  bundle_refused file s (whole.Bundle (bundle_faults.BadKey at)) loads r other = λ i. received (loads i) (whole_if (r i))
  bundle_refused file s (whole.Bundle (bundle_faults.BadReplaced at)) loads r other = λ i. received (loads i) (whole_if (r i))
  bundle_refused file s (whole.Bundle (bundle_faults.BadTag at)) loads r other = λ i. received (loads i) (whole_if (r i))
  bundle_refused file s (whole.Bundle (bundle_faults.NotUtf8 at)) loads r other = λ i. received (loads i) (whole_if (r i))
  bundle_refused file s (whole.Bundle (bundle_faults.BadText at)) loads r other = λ i. received (loads i) (whole_if (r i))
  bundle_refused file s (whole.Bundle (bundle_faults.Unsupported at)) loads r other = λ i. received (loads i) (whole_if (r i))

  -- and where it is refused as out of memory, memory may be wanted
  pub bundle_wants : (r : Result Done Fault) (fault : WholeFault) → RefusesWhole bytes fault → of_whole fault ≡ Memory
      → MayWantMemory (is_late_in bytes) r
  bundle_wants r whole.Trailing h e = cc e
  bundle_wants r (whole.Bundle bundle_faults.Memory) h e = judging_wants r h
  bundle_wants r (whole.Bundle bundle_faults.Magic) h e = cc e
  bundle_wants r (whole.Bundle bundle_faults.Truncated) h e = cc e
  bundle_wants r (whole.Bundle (bundle_faults.NotRising at)) h e = cc e
  bundle_wants r (whole.Bundle (bundle_faults.BadId at)) h e = cc e
  bundle_wants r (whole.Bundle (bundle_faults.BadKey at)) h e = cc e
  bundle_wants r (whole.Bundle (bundle_faults.BadReplaced at)) h e = cc e
  bundle_wants r (whole.Bundle (bundle_faults.BadTag at)) h e = cc e
  bundle_wants r (whole.Bundle (bundle_faults.NotUtf8 at)) h e = cc e
  bundle_wants r (whole.Bundle (bundle_faults.BadText at)) h e = cc e
  bundle_wants r (whole.Bundle (bundle_faults.Unsupported at)) h e = cc e

  -- where the bundle was judged, it may be wanted
  pub joining_wants : (s : State) (given : List Operation) → whole_at bytes ≡ Ok given
      → MayWantMemory (is_late_in bytes) (with_bundle s (whole_at bytes))
  joining_wants s given exact = rw exact (by (clash s.held given))
    where
      by : (found : Option Id) → MayWantMemory (is_late_in bytes) (done (steps.received s given found))
      by None = tt
      by (Some id) = refl
