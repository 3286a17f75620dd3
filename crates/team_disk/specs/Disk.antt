-- What calls do to the files of some folders, and what a crash may leave of them: this project's
-- own
-- model of what POSIX says of files, names and fsync, and no more than it says.
use Rattle.std.specs.Prelude.{◌<◌, ◌≡◌, ◌⊎◌, ℕ, ◌≤◌, Bool, List, Option, Some, None, Vec, Result, IsTrue, IsErrOf}
use Rattle.std.specs.Borrow.{Bor}
use Rattle.std.specs.declared.alloc.Global.{Global}
use Rattle.team_disk.specs.declared.disk.DiskFault.{DiskFault}
use Rattle.team_disk.specs.declared.disk.Folder.{Folder}
use Rattle.team_disk.specs.declared.disk.DiskFault.TheVariants.{Failed, NameTaken}

-- where a file may be: under a name in a folder
pub record Place : Type 0 where
  pub folder : Folder
  pub name : List ℕ

-- this name in this folder
abbrev pub at : Folder → List ℕ → Place
at folder name = record { folder = folder; name = name }

-- what is there: the bytes of the file at each place that has one
abbrev pub Files : Type 0
Files = Place → Option (List ℕ)

-- two places are not the same
abbrev pub Apart : Place → Place → Type 0
Apart one other = one ≡ other → ⊥

-- the same files, but perhaps at this place
abbrev pub SameBut : Place → Files → Files → Type 0
SameBut place old new = (each : Place) → Apart each place → new each ≡ old each

-- the same files, but perhaps at these two places
abbrev pub SameButTwo : Place → Place → Files → Files → Type 0
SameButTwo one other old new = (each : Place) → Apart each one → Apart each other → new each
    ≡ old each

-- the same files, but what is at this place
pub record Written (place : Place) (file : Option (List ℕ)) (old new : Files) : Type 0 where
  pub there : new place ≡ file
  pub others : SameBut place old new

-- a file got this place, or did not
pub record MayPut (place : Place) (file : Option (List ℕ)) (old new : Files) : Type 0 where
  pub there : (new place ≡ old place) ⊎ (new place ≡ file)
  pub others : SameBut place old new

-- a file got another place, or did not; at the one that it had there may be anything
pub record MayMove (from_place to_place : Place) (file : Option (List ℕ))
    (old new : Files) : Type 0 where
  pub there : (new to_place ≡ old to_place) ⊎ (new to_place ≡ file)
  pub others : SameButTwo from_place to_place old new

-- each outcome of a crash is an earlier outcome after a step
abbrev pub Follows : (Files → Files → Type 0) → (Files → Type 0) → (Files → Type 0) → Type 0
Follows step old new = (c : Files) → new c → (d : Files) × old d × step d c

-- a file whose bytes are on the disk stays one, but perhaps at these two places
abbrev pub KeepsSynced : Place → Place → (Place → Bool) → (Place → Bool) → Type 0
KeepsSynced one other old new =
    (each : Place) → Apart each one → Apart each other → IsTrue (old each) → IsTrue (new each)

-- Time goes on: a crash since t might have left what it might have left before, or what it may
-- leave now.
pub record Elapses (before now : ℕ) (past since : ℕ → Files → Type 0)
    (may_leave : Files → Type 0) : Type 0 where
  pub later : before ≤ now
  pub nothing_else : (t : ℕ) (c : Files) → t ≤ before → since t c → past t c ⊎ may_leave c
  pub keeps : (t : ℕ) (c : Files) → t ≤ before → past t c → since t c

-- A crash at any moment since old leaves files that have P.
pub record LeavesOnly {D : Type 0} (moment : D → ℕ) (left_since : D → ℕ → Files → Type 0)
    (old new : D) (P : Files → Type 0) : Type 0 where
  pub later : moment old ≤ moment new
  pub each : (c : Files) → left_since new (moment old) c → P c
  -- for a run that began earlier
  pub before : (t : ℕ) (c : Files) → t ≤ moment old → left_since new t c → left_since old t c ⊎ P c

-- a call answers that the disk failed only where it has failed since
pub record HasCause {T : Type 0} (before now : ℕ) (result : Result T DiskFault) : Type 0 where
  pub later : before ≤ now
  pub failed : IsErrOf result Failed → before < now

-- at this place there is one of these two files, and what was there is left under all names but
-- these two
pub record IsOneOrOther (place scratch : Place) (one other : Option (List ℕ))
    (may_leave : Files → Type 0) (c : Files) : Type 0 where
  pub there : (c place ≡ one) ⊎ (c place ≡ other)
  pub others : (d : Files) × may_leave d × SameButTwo place scratch d c

-- a file has another place by now, or has not yet; where it was there may be anything, and what was
-- there is left under all other names
pub record IsMovedOrNot (from_place to_place : Place) (file : Option (List ℕ))
    (may_leave : Files → Type 0) (c : Files) : Type 0 where
  pub before : Files
  pub left : may_leave before
  pub moved : MayMove from_place to_place file before c

-- whatever a crash leaves, it leaves this file at this place
abbrev pub Leaves : Place → Option (List ℕ) → (Files → Type 0) → Type 0
Leaves place file may_leave = (c : Files) → may_leave c → c place ≡ file

-- all files of a folder are on the disk, whether or not their names are
abbrev pub AllSynced : Folder → (Place → Bool) → Type 0
AllSynced folder is_synced = (each : Place) → each.folder ≡ folder → IsTrue (is_synced each)

-- what a read of a file answers
abbrev pub as_read : Option (Vec ℕ Global) → Option (List ℕ)
as_read None = None
as_read (Some bytes) = Some bytes.items

-- bytes that are lent, if they are
abbrev pub lent_bytes : Option (Bor (List ℕ)) → Option (List ℕ)
lent_bytes None = None
lent_bytes (Some bytes) = Some bytes.now
