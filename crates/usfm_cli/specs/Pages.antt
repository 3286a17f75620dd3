-- The page about a project (this project's own rule).
use Rattle.std.specs.Prelude.{◌≡◌, ◌⊎◌, ℕ, List, Result, Ok, Err}
use Rattle.replica_state.specs.States.{State}
use Rattle.project_page.specs.Pages.{IsPageOf}
use Rattle.versification.specs.Versifications.{Verses}
use Rattle.versification.specs.declared.fault.VersificationFault.{VersificationFault}
use Rattle.command_faults.specs.Faults.{of_versification}
use Rattle.command_faults.specs.declared.fault.Fault.{Fault}
use Rattle.command_faults.specs.declared.fault.Fault.TheVariants.{Memory}

-- what is answered of a project that is read, by what a versification is read as: a page about it;
-- or the fault of the versification; or out of memory, and nothing else
abbrev pub AnswersPage : Result Verses VersificationFault → State → Result (List ℕ) Fault → Type 0
AnswersPage (Ok v) s (Ok page) = IsPageOf v s page
AnswersPage (Ok v) s (Err fault) = fault ≡ Memory
AnswersPage (Err refused) s (Ok page) = ⊥
AnswersPage (Err refused) s (Err fault) = (fault ≡ of_versification refused) ⊎ (fault ≡ Memory)
