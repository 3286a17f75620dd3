-- Laws of imports (this project's own rule).
use Rattle.std.specs.Prelude.{◌≡◌, ℕ, true, List, Ok}
use Rattle.std.specs.List.{list_any}
use Rattle.usfm_ref.specs.Keys.{book_head}
use Rattle.usfm_ref.specs.Segments.{segment}
use Rattle.op_core.specs.Ops.{in_segment}
use Rattle.verse_cut.specs.Reading.{book_in}
use Rattle.op_core.specs.Export.{export}
use Rattle.replica_state.specs.States.{State, IsState}
use Rattle.replica_state.specs.Steps.{Import, Imported, step}

-- After an import that is not refused the export of the file's book is the file.
abbrev pub ImportsAreExported : Type 0
ImportsAreExported =
    (s : State) (file book : List ℕ) (count : ℕ) → IsState s → book_in file ≡ Ok book →
    (step s (Import file)).reply ≡ Imported (Ok count) →
    export (step s (Import file)).after.held book ≡ file

-- The import of the export of a book whose head has an operation adds nothing.
abbrev pub OwnExportsAddNothing : Type 0
OwnExportsAddNothing =
    (s : State) (book : List ℕ) → IsState s →
    list_any (in_segment (segment book book_head)) s.held ≡ true →
    step s (Import (export s.held book)) ≡ record { after = s; reply = Imported (Ok 0) }
