-- What a disk in memory has: the changes that were made of it, one after another.
use Rattle.std.specs.Prelude.{◌≡◌, ℕ, nat_eq, ◌≤◌, Bool, true, false, List, [], ◌∷◌, length, take, Option, Some, None, Vec, ◌&&◌, if◌then◌else◌}
use Rattle.std.specs.Borrow.{Bor}
use Rattle.std.specs.declared.alloc.Global.{Global}
use Rattle.std.specs.Cmp.Lexicographic.{pointwise}
use Rattle.std.proofs.Common.{refl, sym, ◌∙◌, ap, arith}
use Rattle.std.proofs.lemmas.List.{take_all}
use Rattle.team_disk.specs.Disk.{Place, Files, as_read}
use Rattle.team_disk.specs.Places.{same_folder}
use Rattle.team_disk.specs.declared.memory.Change.{Change}
use Rattle.team_disk.specs.declared.memory.StoredPlace.{StoredPlace}

-- whether it is this place
abbrev pub is_at : StoredPlace → Place → Bool
is_at stored place = same_folder stored.folder place.folder && pointwise nat_eq stored.name.items
    place.name

-- whether a change takes the file of this place away
abbrev pub is_left : Option StoredPlace → Place → Bool
is_left None place = false
is_left (Some stored) place = is_at stored place

-- what is at a place after a change, where this was there before it
abbrev pub after : Change → Place → Option (List ℕ) → Option (List ℕ)
after change place file =
    if is_at change.place place then as_read change.bytes
    else if is_left change.left place then None
    else file

-- what is at a place after some changes, where this was there before them
abbrev pub changed : Option (List ℕ) → List Change → Place → Option (List ℕ)
changed file [] place = file
changed file (change ∷ changes) place = changed (after change place file) changes place

-- the files of a disk that had none before these changes
abbrev pub files_of : List Change → Files
files_of changes place = changed None changes place

-- the same files, place by place
abbrev pub Same : Files → Files → Type 0
Same one other = (each : Place) → one each ≡ other each

-- the files are those after some number of changes, from this number on
abbrev pub HadBeen : List Change → ℕ → Files → Type 0
HadBeen changes from_number c = (k : ℕ) × (from_number ≤ k) × (k ≤ length changes) × Same c
    (files_of (take k changes))

-- the moments of a disk: what is there now is one of those since an earlier one
pub counts : (changes : List Change) (t : ℕ) (c : Files) → t ≤ length changes → Same c
    (files_of changes) → HadBeen changes t c
counts changes t c le now = (
  length changes,
  le,
  omega arith,
  λ each. now each ∙ ap
      (λ (l : List Change). files_of l each) (sym
      (take_all (length changes) changes (omega arith))),
)

-- since the last moment there was no other
pub only : (changes : List Change) (c : Files) → HadBeen changes (length changes) c → Same c
    (files_of changes)
only changes c left = λ each. left.3 each ∙ ap (λ (l : List Change). files_of l each)
    (take_all left.0 changes (omega (arith, left.1)))

-- what a crash may leave of a disk with these changes
abbrev pub Left : List Change → Files → Type 0
Left changes c = Same c (files_of changes)

-- bytes that are lent
abbrev pub lent : Option (Bor (Vec ℕ Global)) → Option (List ℕ)
lent None = None
lent (Some bytes) = Some bytes.now.items
