-- What a disk shows whose calls are recorded.
use Rattle.team_disk.specs.declared.recorded.Recorded.{Recorded}

-- what its calls are made by
abbrev pub calls_of : {C S : Type 0} → Recorded C S → C
calls_of disk = disk.calls
