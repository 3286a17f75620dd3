-- What a note says of a call.
use Rattle.team_disk.specs.Disk.{at, lent_bytes}
use Rattle.team_disk.specs.Replay.{Asked, Read, Write, Rename, Link, Remove, Sync, Event}
use Rattle.team_disk.specs.declared.record.Call.{Call}
use Rattle.team_disk.specs.declared.record.Call.TheVariants as call
use Rattle.team_disk.specs.declared.record.Note.{Note}

-- what was asked
abbrev pub asked_by : Call → Asked
asked_by (call.Read folder name bytes) = Read (at folder name.now) (lent_bytes bytes)
asked_by (call.Write folder name bytes) = Write (at folder name.now) bytes.now
asked_by (call.Rename from_folder from_name to_folder to_name) =
    Rename (at from_folder from_name.now) (at to_folder to_name.now)
asked_by (call.Link from_folder from_name to_folder to_name) =
    Link (at from_folder from_name.now) (at to_folder to_name.now)
asked_by (call.Remove folder name) = Remove (at folder name.now)
asked_by (call.Sync folder) = Sync folder

-- the call with its answer
abbrev pub event_of : Note → Event
event_of note = (asked_by note.call, note.fault)
