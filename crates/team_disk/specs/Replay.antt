-- What a record of calls and their answers says of files: what a read returns after these calls, and
-- what a crash may leave. No memory holds such a record. That a system did as it answered is the
-- premise under which it speaks of a real disk.
use Rattle.std.specs.Prelude.{◌≡◌, ◌⊎◌, ◌≤◌, ℕ, suc, Bool, true, false, not, ◌&&◌, ◌||◌, List, [], ◌∷◌, length, Option, Some, None, IsSome, IsTrue, Vec, Result, Ok, Err, if◌then◌else◌, ⊤}
use Rattle.std.proofs.Common.{inl, inr, arith}
use Rattle.std.specs.declared.alloc.Global.{Global}
use Rattle.team_disk.specs.Disk.{Place, Files, Apart, SameBut, MayPut, MayMove, as_read}
use Rattle.team_disk.specs.Places.{same_place}
use Rattle.team_disk.specs.declared.disk.DiskFault.{DiskFault}
use Rattle.team_disk.specs.declared.disk.DiskFault.TheVariants.{NameTaken}
use Rattle.team_disk.specs.declared.disk.Folder.{Folder}

-- ---- a record

-- What was asked of a disk: a read, with what it returned; a file to be written whole; a name to be
-- given in the place of another; one more name; a name to be taken away; a folder to be synced.
pub data Asked : Type 0 where
  Read : (place : Place) (file : Option (List ℕ)) → Asked
  Write : (place : Place) (bytes : List ℕ) → Asked
  Rename : (from_place to_place : Place) → Asked
  Link : (from_place to_place : Place) → Asked
  Remove : (place : Place) → Asked
  Sync : (folder : Folder) → Asked

-- a call and how it ended: without a fault, or with this one
abbrev pub Event : Type 0
Event = Asked × Option DiskFault

-- the fault that a call answered, if it did
abbrev pub fault_of : {T : Type 0} → Result T DiskFault → Option DiskFault
fault_of (Ok value) = None
fault_of (Err fault) = Some fault

-- what a read returned
abbrev pub found : Result (Option (Vec ℕ Global)) DiskFault → Option (List ℕ)
found (Ok file) = as_read file
found (Err fault) = None

-- ---- what a read returns

-- the files, with this one at a place, or none there
abbrev pub put : Place → Option (List ℕ) → Files → Files
put place file files each = if same_place each place then file else files each

-- the files after what was asked was done
abbrev pub done : Asked → Files → Files
done (Read place file) files = files
done (Write place bytes) files = put place (Some bytes) files
done (Rename from_place to_place) files =
    put to_place (files from_place) (put from_place None files)
done (Link from_place to_place) files = put to_place (files from_place) files
done (Remove place) files = put place None files
done (Sync folder) files = files

-- A call that failed is taken as one that changed nothing: where it did, a later read tells.
abbrev pub done_unless : Option DiskFault → Asked → Files → Files
done_unless None asked files = done asked files
done_unless (Some fault) asked files = files

-- the files after these calls, of which the newest comes first
abbrev pub seen_of : Files → List Event → Files
seen_of start [] = start
seen_of start ((asked, fault) ∷ earlier) = done_unless fault asked (seen_of start earlier)

-- ---- whose bytes are on the disk

-- whether a call that was done has a file synced, or had it synced before it got the name
abbrev pub syncs : Asked → Place → Bool
syncs (Read place file) each = false
syncs (Write place bytes) each = same_place each place
syncs (Rename from_place to_place) each = same_place each to_place
syncs (Link from_place to_place) each = same_place each to_place
syncs (Remove place) each = same_place each place
syncs (Sync folder) each = false

-- whether a call that failed leaves of a file on the disk what was there
abbrev pub spares : Asked → Place → Bool
spares (Read place file) each = true
spares (Write place bytes) each = not (same_place each place)
spares (Rename from_place to_place) each = true
spares (Link from_place to_place) each = true
spares (Remove place) each = true
spares (Sync folder) each = true

-- whether it is after a call, where old says it of before
abbrev pub synced_unless : Option DiskFault → Asked → (Place → Bool) → Place → Bool
synced_unless None asked old each = syncs asked each || old each
synced_unless (Some fault) asked old each = spares asked each && old each

-- whether the bytes of the file at a place are on the disk; what stood there at first was
abbrev pub synced_of : List Event → Place → Bool
synced_of [] each = true
synced_of ((asked, fault) ∷ earlier) each = synced_unless fault asked (synced_of earlier) each

-- ---- what a crash may leave

-- what the files are that a crash leaves, where it might have left old before a call
abbrev pub AfterStep : (Files → Files → Type 0) → (Files → Type 0) → Files → Type 0
AfterStep step old c = (d : Files) × old d × step d c

-- what is on the disk of a folder is what a read returns, where the bytes are there
abbrev pub IsDurable : Folder → Files → (Place → Bool) → Files → Type 0
IsDurable folder seen synced c =
    (each : Place) → each.folder ≡ folder → IsTrue (synced each) → c each ≡ seen each

-- What a crash may leave after a call, or within it, by what a read returned before it, what was
-- synced, and what a crash might have left. A name that something has is given to nothing by a call
-- that fails.
abbrev pub may_leave_after : Asked → Option DiskFault → Files → (Place → Bool)
    → (Files → Type 0) → Files → Type 0
may_leave_after (Read place file) fault seen synced old c = old c
may_leave_after (Write place bytes) fault seen synced old c = AfterStep (SameBut place) old c
may_leave_after (Rename from_place to_place) fault seen synced old c =
    AfterStep (MayMove from_place to_place (seen from_place)) old c
may_leave_after (Link from_place to_place) None seen synced old c =
    AfterStep (MayPut to_place (seen from_place)) old c
may_leave_after (Link from_place to_place) (Some fault) seen synced old c =
    old c ⊎ (seen to_place ≡ None) × AfterStep (MayPut to_place (seen from_place)) old c
may_leave_after (Remove place) fault seen synced old c = AfterStep (SameBut place) old c
may_leave_after (Sync folder) None seen synced old c = old c × IsDurable folder seen synced c
may_leave_after (Sync folder) (Some fault) seen synced old c = old c

-- What a crash may leave after these calls. What stood there at first is on the disk.
abbrev pub left_of : Files → List Event → Files → Type 0
left_of start [] c = (each : Place) → c each ≡ start each
left_of start ((asked, fault) ∷ earlier) c =
    may_leave_after asked fault (seen_of start earlier) (synced_of earlier) (left_of start earlier)
    c

-- what a crash might have left at some moment once so many calls were made
abbrev pub since_of : Files → List Event → ℕ → Files → Type 0
since_of start [] t c = left_of start [] c
since_of start (event ∷ earlier) t c =
    left_of start (event ∷ earlier) c ⊎ (t ≤ length earlier) × since_of start earlier t c

-- ---- whether the answers are those of such a disk

-- how many calls failed
abbrev pub failures : List Event → ℕ
failures [] = 0
failures ((asked, None) ∷ earlier) = failures earlier
failures ((asked, Some fault) ∷ earlier) = suc (failures earlier)

-- a call is answered as these files have it
abbrev pub fits : Asked → Option DiskFault → Files → Type 0
fits (Read place file) None seen = file ≡ seen place
fits (Link from_place to_place) None seen = seen to_place ≡ None
fits (Link from_place to_place) (Some NameTaken) seen = IsSome (seen to_place)
fits asked fault seen = ⊤

-- Each call was answered as the files have it that these calls make: nobody else changed what they
-- found.
abbrev pub Faithful : Files → List Event → Type 0
Faithful start [] = ⊤
Faithful start ((asked, fault) ∷ earlier) =
    fits asked fault (seen_of start earlier) × Faithful start earlier

-- ---- the moments

-- what a crash may leave now is among what it might have left since an earlier moment
pub now_counts : (start : Files) (events : List Event) (t : ℕ) (c : Files) → t ≤ length events
    → left_of start events c → since_of start events t c
now_counts start [] t c le now = now
now_counts start (event ∷ earlier) t c le now = inl now

-- since this moment there was no other
pub now_only : (start : Files) (events : List Event) (c : Files)
    → since_of start events (length events) c → left_of start events c
now_only start [] c left = left
now_only start (event ∷ earlier) c (inl now) = now
now_only start (event ∷ earlier) c (inr before) = absurd (omega (arith, before.0))
