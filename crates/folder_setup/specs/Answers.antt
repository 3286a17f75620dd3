-- What calls answer that read a setup or write one (this project's own rule).
use Rattle.std.specs.Prelude.{◌≡◌, ℕ, List, Result, Ok, Err}
use Rattle.folder_setup.specs.Setups.{SetupParts, setup_view}
use Rattle.folder_setup.specs.declared.fault.SetupFault.{SetupFault}
use Rattle.folder_setup.specs.declared.fault.SpellFault.{SpellFault}
use Rattle.folder_setup.specs.declared.fault.SpellFault.TheVariants.{Memory}
use Rattle.folder_setup.specs.declared.reading.Setup.{Setup}

-- the setup that is wanted, or the fault that is
abbrev pub ReadsAs : Result SetupParts SetupFault → Result Setup SetupFault → Type 0
ReadsAs wanted (Ok setup) = wanted ≡ Ok (setup_view setup)
ReadsAs wanted (Err fault) = wanted ≡ Err fault

-- The text that is wanted, or the refusal that is; out of memory only where a text is wanted.
abbrev pub SpellsAs : {A : Type 0} → (A → List ℕ) → Result (List ℕ) SpellFault
    → Result A SpellFault → Type 0
SpellsAs bytes_of wanted (Ok text) = wanted ≡ Ok (bytes_of text)
SpellsAs bytes_of (Ok bytes) (Err fault) = fault ≡ Memory
SpellsAs bytes_of (Err why) (Err fault) = fault ≡ why
