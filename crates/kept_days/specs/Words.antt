-- Since when: what a word names, and which folder has the days (this project's own rule).
use Rattle.std.specs.Prelude.{◌≡◌, ℕ, ◌-◌, ◌==◌, Bool, true, false, not, ◌&&◌, List, ◌++◌, codes, length, drop, Option, None, Some, if◌then◌else◌}
use Rattle.std.specs.Str.{bytes_eq}
use Rattle.kept_days.specs.Days.{is_day}
use Rattle.kept_days.specs.declared.since.Since.{Since}
use Rattle.kept_days.specs.declared.since.Since.TheVariants.{Day, Folder, File}

-- What the word of `--since` names: a day where it is spelled as one; else a folder where one stands
-- there; and else a file.
abbrev pub since_what : List ℕ → Bool → Since
since_what word is_folder = if is_day word then Day else if is_folder then Folder else File

-- whether a path ends in a name: it is not empty, and has no slash at its end
abbrev pub is_named : List ℕ → Bool
is_named path =
    not (length path == 0) && not (bytes_eq (drop (length path - 1) path) (codes "/"))

-- the end that `join` gives a project's name
abbrev pub project_end : List ℕ
project_end = codes ".project"

-- The folder whose days are asked for with a project: the word of the project, where a folder stands
-- there; else what stands before the end `.project` of it, where that ends in a name; else none.
abbrev pub IsFolderOf : List ℕ → Bool → Option (List ℕ) → Type 0
IsFolderOf project true found = found ≡ Some project
IsFolderOf project false None =
    (front : List ℕ) → project ≡ front ++ project_end → is_named front ≡ false
IsFolderOf project false (Some front) =
    (project ≡ front ++ project_end) × (is_named front ≡ true)
