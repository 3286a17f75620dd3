-- How the logic stores a record of calls.
use Rattle.std.specs.Prelude.{◌≡◌, ℕ, List, [], ◌∷◌, cond, ◌==◌, Option, Some, None, refl}
use Rattle.std.specs.Coded.{Coded, code_by, coded×, coded_ℕ, coded_list}
use Rattle.team_disk.specs.Disk.{Place, at}
use Rattle.team_disk.specs.Replay.{Asked, Read, Write, Rename, Link, Remove, Sync, Event}
use Rattle.team_disk.specs.declared.disk.DiskFault.{DiskFault}
use Rattle.team_disk.specs.declared.disk.DiskFault.TheVariants.{Memory, Failed, NameTaken}
use Rattle.team_disk.specs.declared.disk.Folder.{Folder}
use Rattle.team_disk.specs.declared.disk.Folder.TheVariants.{Books, Own, Project, Box}

abbrev folder_number : Folder → ℕ
folder_number Books = 0
folder_number Own = 1
folder_number Project = 2
folder_number Box = 3

abbrev folder_at : ℕ → Folder
folder_at n = cond (n == 0) Books (cond (n == 1) Own (cond (n == 2) Project Box))

-- a folder is known by its number
pub folder_back : (folder : Folder) → folder_at (folder_number folder) ≡ folder
folder_back Books = refl
folder_back Own = refl
folder_back Project = refl
folder_back Box = refl

abbrev fault_number : Option DiskFault → ℕ
fault_number None = 0
fault_number (Some Memory) = 1
fault_number (Some Failed) = 2
fault_number (Some NameTaken) = 3

abbrev fault_at : ℕ → Option DiskFault
fault_at n =
    cond (n == 0) None (cond (n == 1) (Some Memory) (cond (n == 2) (Some Failed) (Some NameTaken)))

-- and how a call ended
pub fault_back : (fault : Option DiskFault) → fault_at (fault_number fault) ≡ fault
fault_back None = refl
fault_back (Some Memory) = refl
fault_back (Some Failed) = refl
fault_back (Some NameTaken) = refl

-- which call, two places, bytes, and how it ended
abbrev Parts : Type 0
Parts = ℕ × (ℕ × (List ℕ × (ℕ × (List ℕ × (List ℕ × ℕ)))))

abbrev parts : ℕ → Place → Place → List ℕ → Option DiskFault → Parts
parts which one other bytes fault = (
  which,
  (
    folder_number one.folder,
    (
      one.name,
      (
        folder_number other.folder,
        (other.name, (bytes, fault_number fault)),
      ),
    ),
  ),
)

abbrev to_parts : Event → Parts
to_parts (Read place None, fault) = parts 0 place place [] fault
to_parts (Read place (Some bytes), fault) = parts 1 place place bytes fault
to_parts (Write place bytes, fault) = parts 2 place place bytes fault
to_parts (Rename from_place to_place, fault) = parts 3 from_place to_place [] fault
to_parts (Link from_place to_place, fault) = parts 4 from_place to_place [] fault
to_parts (Remove place, fault) = parts 5 place place [] fault
to_parts (Sync folder, fault) = parts 6 (at folder []) (at folder []) [] fault

abbrev asked_of : ℕ → Place → Place → List ℕ → Asked
asked_of which one other bytes =
    cond (which == 0) (Read one None) (cond (which == 1) (Read one (Some bytes))
    (cond (which == 2) (Write one bytes) (cond (which == 3) (Rename one other)
    (cond (which == 4) (Link one other) (cond (which == 5) (Remove one) (Sync one.folder))))))

abbrev from_parts : Parts → Event
from_parts p = (
  asked_of p.0 (at (folder_at p.1.0) p.1.1.0) (at (folder_at p.1.1.1.0) p.1.1.1.1.0)
      p.1.1.1.1.1.0,
  fault_at p.1.1.1.1.1.1,
)

-- and a call by its parts
pub from_parts-to_parts : (event : Event) → from_parts (to_parts event) ≡ event
from_parts-to_parts (Read place None, fault) =
    λ i. (Read (at (folder_back place.folder i) place.name) None, fault_back fault i)
from_parts-to_parts (Read place (Some bytes), fault) =
    λ i. (Read (at (folder_back place.folder i) place.name) (Some bytes), fault_back fault i)
from_parts-to_parts (Write place bytes, fault) =
    λ i. (Write (at (folder_back place.folder i) place.name) bytes, fault_back fault i)
from_parts-to_parts (Rename from_place to_place, fault) =
    λ i. (
      Rename (at (folder_back from_place.folder i) from_place.name)
          (at (folder_back to_place.folder i) to_place.name),
      fault_back fault i,
    )
from_parts-to_parts (Link from_place to_place, fault) =
    λ i. (
      Link (at (folder_back from_place.folder i) from_place.name)
          (at (folder_back to_place.folder i) to_place.name),
      fault_back fault i,
    )
from_parts-to_parts (Remove place, fault) =
    λ i. (Remove (at (folder_back place.folder i) place.name), fault_back fault i)
from_parts-to_parts (Sync folder, fault) = λ i. (Sync (folder_back folder i), fault_back fault i)

-- so a record is kept as the parts of its calls
abbrev pub events_code : Coded (List Event)
events_code = coded_list (code_by Parts (coded× coded_ℕ (coded× coded_ℕ (coded×
    (coded_list coded_ℕ) (coded× coded_ℕ (coded× (coded_list coded_ℕ)
    (coded× (coded_list coded_ℕ) coded_ℕ)))))) to_parts from_parts from_parts-to_parts)
