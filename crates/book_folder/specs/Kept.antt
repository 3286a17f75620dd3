-- What stands under the names of the program's folder, beside the bases and the file of names (this
-- project's own rule).
use Rattle.std.specs.Prelude.{ℕ, ◌-◌, ◌==◌, Bool, ◌||◌, List, length, drop, codes, if◌then◌else◌}
use Rattle.std.specs.List.{after_first, before_first}
use Rattle.usfm_ref.specs.Books.{is_book_code, same_bytes}
use Rattle.book_folder.specs.declared.kept.KeptName.{KeptName}
use Rattle.book_folder.specs.declared.kept.KeptName.TheVariants.{New, OldBase, HalfWritten, Other}

-- whether a name ends in `.made`
abbrev pub ends_in_made : List ℕ → Bool
ends_in_made name = same_bytes (drop (length name - 5) name) (codes ".made")

-- what of a book has this ending: its new file, its bundle, or one of these that was half written
abbrev pub of_book : List ℕ → List ℕ → KeptName
of_book book ending =
    if same_bytes ending (codes "new") then New book
    else if same_bytes ending (codes "bundle") then OldBase
    else if same_bytes ending (codes "bundle.new") || same_bytes ending (codes "usfm.new")
    then HalfWritten
    else Other

-- what stands under a name that is a book's code, a full stop and an ending
abbrev pub named_by : List ℕ → List ℕ → KeptName
named_by code ending = if is_book_code code then of_book code ending else Other

-- what stands under a name in the program's folder
abbrev pub kept_name : List ℕ → KeptName
kept_name name =
    if ends_in_made name then HalfWritten
    else named_by (before_first (λ b. b == 46) name) (after_first (λ b. b == 46) name)
