-- What is answered of a project whose conflicts are asked, where it is not the next question.
use Rattle.std.proofs.Common.{◌≡◌, ◌≢◌, ℕ, List, [], Option, Ok, Err, refl, ap}
use Rattle.usfm_ref.specs.declared.segment.Segment.{Segment}
use Rattle.op_core.specs.Ops.{Operation}
use Rattle.conflict_settling.specs.Asked.{Asks}
use Rattle.conflict_settling.specs.declared.asked.SettleFault.{SettleFault}
use Rattle.conflict_settling.specs.declared.asked.SettleFault.TheVariants as settling
use Rattle.conflict_settling.specs.declared.question.Manner.{Manner}
use Rattle.conflict_settling.specs.declared.wanted.Wanted.{Wanted}
use Rattle.replica_state.specs.States.{State}
use Rattle.project_file.specs.declared.fault.LoadFault.{LoadFault}
use Rattle.project_file.specs.declared.fault.LoadFault.TheVariants as loading
use Rattle.project_file.specs.Answers.{RefusesLoad}
use Rattle.project_file.specs.Projects.{project_at}
use Rattle.command_faults.specs.Faults.{of_loading, of_settling}
use Rattle.usfm_cli.specs.Settling.{AsksOf, CountsOpen}
use Rattle.usfm_cli.proofs.Loading.{loading_wants}

module _ (wanted : List Wanted) (passed : Option Segment) (manner : Manner) where
  -- a whole project is not read for want of memory alone, and that only where something is held
  pub not_read : (bytes : List ℕ) (s : State) (fault : LoadFault) → project_at bytes ≡ Ok s → RefusesLoad bytes fault
      → (s.held ≡ [] → fault ≢ loading.Memory) → AsksOf s.held wanted passed manner (Err (of_loading fault))
  not_read bytes s loading.Memory loads refused some = λ none. absurd (some none refl)
  not_read bytes s loading.BadProject loads refused some = cc (loading_wants bytes s loading.BadProject loads refused)
  not_read bytes s (loading.Bundle fault) loads refused some = cc (loading_wants bytes s (loading.Bundle fault) loads refused)

  -- nothing is asked where a book has no operation, or for want of memory
  pub not_asked : (held : List Operation) (fault : SettleFault) → Asks held wanted passed manner (Err fault)
      → AsksOf held wanted passed manner (Err (of_settling fault))
  not_asked held settling.NoBook refused = refused
  not_asked held settling.Memory refused = λ none. refused

-- of a whole project that is not read nothing is counted, for want of memory
pub not_counted : (bytes : List ℕ) (s : State) (wanted : List Wanted) (fault : LoadFault) → project_at bytes ≡ Ok s
    → RefusesLoad bytes fault → CountsOpen s.held wanted (Err (of_loading fault))
not_counted bytes s wanted fault loads refused = ap of_loading (loading_wants bytes s fault loads refused)
