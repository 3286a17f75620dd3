-- Which of the words of `sync` say what is synced (this project's own rule).
use Rattle.std.specs.Prelude.{ℕ, ◌==◌, Bool, Option, None, Some, if◌then◌else◌}
use Rattle.command_line.specs.declared.places.Places.{Places}
use Rattle.command_line.specs.declared.places.Places.TheVariants.{Here, Folder, ProjectAndFolder}

-- What the first words say, of so many, where it is known whether the first is a folder's name: that
-- is the folder; else the first is the project's, and the second the folder's, which has to be there.
abbrev pub places : ℕ → Bool → Option Places
places count is_folder =
    if count == 0 then Some Here
    else if is_folder then Some Folder
    else if count == 1 then None
    else Some ProjectAndFolder
