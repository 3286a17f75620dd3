-- Whether two places are one.
use Rattle.std.specs.Prelude.{nat_eq, Bool, true, false, ◌&&◌}
use Rattle.std.specs.Cmp.Lexicographic.{pointwise}
use Rattle.team_disk.specs.Disk.{Place}
use Rattle.team_disk.specs.declared.disk.Folder.{Folder}
use Rattle.team_disk.specs.declared.disk.Folder.TheVariants.{Books, Own, Project, Box}

-- whether two folders are one
abbrev pub same_folder : Folder → Folder → Bool
same_folder Books Books = true
same_folder Own Own = true
same_folder Project Project = true
same_folder Box Box = true
same_folder _ _ = false

-- whether two places are one
abbrev pub same_place : Place → Place → Bool
same_place one other = same_folder one.folder other.folder && pointwise nat_eq one.name other.name
