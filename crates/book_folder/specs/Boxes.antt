-- A box, in which each copy of a team leaves its bundle (this project's own rule): which of its
-- files come in.
use Rattle.std.specs.Prelude.{ℕ, Bool, false, List, Option, None, Some, Result, Ok, Err, if◌then◌else◌}
use Rattle.usfm_ref.specs.Books.{same_bytes}
use Rattle.bundle_codec.specs.Joining.{whole_at}
use Rattle.bundle_codec.specs.declared.fault.WholeFault.{WholeFault}
use Rattle.op_core.specs.Ops.{Operation}
use Rattle.book_folder.specs.declared.team_box.BoxFile.{BoxFile}
use Rattle.book_folder.specs.declared.team_box.BoxFile.TheVariants.{Bundle, Unchanged, NoBundle}

-- a bundle comes in, and nothing else does
abbrev pub file_by_set : Result (List Operation) WholeFault → BoxFile
file_by_set (Ok ops) = Bundle
file_by_set (Err fault) = NoBundle

-- whether bytes are the copy's own bundle
abbrev pub is_own : Option (List ℕ) → List ℕ → Bool
is_own None bytes = false
is_own (Some own) bytes = same_bytes bytes own

-- What becomes of a file of a box: the copy's own bundle does not come in again where it is what
-- the project has.
abbrev pub box_file : Option (List ℕ) → List ℕ → BoxFile
box_file own bytes = if is_own own bytes then Unchanged else file_by_set (whole_at bytes)
