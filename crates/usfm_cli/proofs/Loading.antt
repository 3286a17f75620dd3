-- Where out of memory may be answered of a command, once a project is read.
use Rattle.std.proofs.Common.{◌≡◌, ◌≢◌, ℕ, Bool, List, Result, Ok, Err, refl, sym, subst, ◌∙◌}
use Rattle.replica_state.specs.States.{State}
use Rattle.project_file.specs.declared.fault.LoadFault.{LoadFault}
use Rattle.project_file.specs.declared.fault.LoadFault.TheVariants as loading
use Rattle.project_file.specs.Answers.{RefusesLoad}
use Rattle.project_file.specs.Projects.{project_at}
use Rattle.usfm_cli.specs.Commands.{Done, Answers, MayWantMemory}
use Rattle.command_faults.specs.declared.fault.Fault.{Fault}
use Rattle.command_faults.specs.declared.fault.Fault.TheVariants.{Memory, NotText, Reference, NoId, FieldBeforeMarker, EmptyMarker, BadStyleType, BadVersification}
use Rattle.command_faults.specs.declared.fault.Fault.TheVariants.{Naming, Clash, Bundle, Trailing, BadSummary, BadSeal, BadSegment, NumbersUsedUp, NoBook}
use Rattle.command_faults.specs.declared.fault.Fault.TheVariants.{NotShown, LeftOut, BadAnswers, WriteFailed, EmptyNeedle, BadProject, ReadFailed, TooLong}
use Rattle.command_faults.specs.declared.fault.Fault.TheVariants.{FileFailed, FileChanged, Emptied, Undone, Unlike, SettledEarly}

-- a project is refused for nothing but memory
pub loads_or_wants : (bytes : List ℕ) (s : State) (fault : LoadFault) → project_at bytes ≡ Ok s → RefusesLoad bytes fault
    → fault ≢ loading.Memory → ⊥
loads_or_wants bytes s loading.Memory loads refused other = other refl
loads_or_wants bytes s loading.BadProject loads refused other = let e : Ok s ≡ Err loading.BadProject = sym loads ∙ refused in cc e
loads_or_wants bytes s (loading.Bundle fault) loads refused other =
    let e : Ok s ≡ Err (loading.Bundle fault) = sym loads ∙ refused in cc e

-- so that is its refusal
pub loading_wants : (bytes : List ℕ) (s : State) (fault : LoadFault) → project_at bytes ≡ Ok s → RefusesLoad bytes fault
    → fault ≡ loading.Memory
loading_wants bytes s loading.Memory loads refused = refl
loading_wants bytes s loading.BadProject loads refused = absurd (loads_or_wants bytes s loading.BadProject loads refused (λ m. cc))
loading_wants bytes s (loading.Bundle fault) loads refused =
    absurd (loads_or_wants bytes s (loading.Bundle fault) loads refused (λ m. cc))

-- a command that was refused wants memory where its contract says so
pub refused_wants : (A : Type 0) (late : Fault → Bool) (wanted : Result Done Fault) (after : State) (fault : Fault)
    → Answers {A = A} late wanted after (Err fault) → fault ≡ Memory → MayWantMemory late wanted
refused_wants A late wanted after fault answers e = subst (λ f. Answers {A = A} late wanted after (Err f)) e answers

-- and where it does not, it is refused for what there is
pub refused_for : (A : Type 0) (late : Fault → Bool) (wanted : Result Done Fault) (after : State) (fault : Fault)
    → Answers {A = A} late wanted after (Err fault) → fault ≢ Memory → wanted ≡ Err fault
refused_for A late wanted after Memory h other = absurd (other refl)
refused_for A late wanted after (NotText valid) h other = h
refused_for A late wanted after (Reference fault) h other = h
refused_for A late wanted after NoId h other = h
refused_for A late wanted after (FieldBeforeMarker line) h other = h
refused_for A late wanted after (EmptyMarker line) h other = h
refused_for A late wanted after (BadStyleType line) h other = h
refused_for A late wanted after (BadVersification line) h other = h
refused_for A late wanted after (Naming fault) h other = h
refused_for A late wanted after (Clash id) h other = h
refused_for A late wanted after (Bundle fault) h other = h
refused_for A late wanted after Trailing h other = h
refused_for A late wanted after BadSummary h other = h
refused_for A late wanted after BadSeal h other = h
refused_for A late wanted after BadSegment h other = h
refused_for A late wanted after NumbersUsedUp h other = h
refused_for A late wanted after NoBook h other = h
refused_for A late wanted after (NotShown id) h other = h
refused_for A late wanted after (LeftOut id) h other = h
refused_for A late wanted after (BadAnswers line) h other = h
refused_for A late wanted after (WriteFailed gone) h other = h
refused_for A late wanted after EmptyNeedle h other = h
refused_for A late wanted after BadProject h other = h
refused_for A late wanted after ReadFailed h other = h
refused_for A late wanted after TooLong h other = h
refused_for A late wanted after FileFailed h other = h
refused_for A late wanted after FileChanged h other = h
refused_for A late wanted after (Emptied count) h other = h
refused_for A late wanted after (Undone count) h other = h
refused_for A late wanted after (Unlike count) h other = h
refused_for A late wanted after SettledEarly h other = h
