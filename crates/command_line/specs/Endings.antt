-- The exit status of a command that was not refused (this project's own rule, after git's
-- `--exit-code`).
use Rattle.std.specs.Prelude.{ℕ, Bool, true, false, if◌then◌else◌}
use Rattle.command_line.specs.declared.ending.Ending.{Ending}
use Rattle.command_line.specs.declared.ending.Ending.TheVariants.{Plain, Finding, Skipped}

-- a finding where there is one
abbrev pub ending_of : Bool → Ending
ending_of has_finding = if has_finding then Finding else Plain

-- what an ending is called where it is asked for
abbrev pub number_of : Ending → ℕ
number_of Plain = 0
number_of Finding = 3
number_of Skipped = 4

-- the exit status, which says nothing of an ending unless it is asked for
abbrev pub status : Ending → Bool → ℕ
status ending is_asked = if is_asked then number_of ending else 0
