use Rattle.std.proofs.Common.{◌≡◌, drop}
use Rattle.team_disk.specs.Disk.{at}
use Rattle.team_disk.specs.Memory.{changed, files_of, lent}
use Rattle.team_disk.proofs.memory.bytes_at.Given as goal

-- what is left to go through makes of what was found what is there in the end
abbrev pub invariant-loop-change : goal.invariant-loop-change
invariant-loop-change l =
    changed (lent l.file) (drop l.change-index l.changes) (at l.folder l.name) ≡ files_of l.changes (at l.folder l.name)
