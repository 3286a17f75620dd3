-- What the steps of a plan do on a disk, and what is left of them by a kill or a power cut (this
-- project's own rule). A disk is names with bytes.
use Rattle.std.specs.Prelude.{◌≡◌, ℕ, Bool, true, false, not, ◌||◌, List, [], ◌∷◌, ◌++◌, map, filter, take, Option, None, Some, option_map, Result, Ok, Err, if◌then◌else◌}
use Rattle.std.specs.List.{find, flat_map, list_any}
use Rattle.std.specs.Option.{is_some, option_to_list}
use Rattle.usfm_ref.specs.Books.{same_bytes}
use Rattle.book_folder.specs.Files.{is_one_of}
use Rattle.book_folder.specs.Naming.{read_names}
use Rattle.book_folder.specs.Plans.{StepParts, ReplaceProject, Settle, RemoveNew, WriteNew, SyncOwn, PutBase, PutNames, PutNext, PutInPlace, SyncFolder}
use Rattle.book_folder.specs.Settling.{SettlingParts, UnsettledParts, settling_steps}
use Rattle.book_folder.specs.Settling as settling
use Rattle.book_folder.specs.Wanted.{FoundParts, NamedParts, SeenParts}
use Rattle.book_folder.specs.declared.refusal.Refusal.{Refusal}

-- ---- disks

-- a disk: the bytes of the project; in the program's folder the base, the names, the next base, and
-- the new file of each book, under its code; and the files of the folder. The bases before the base
-- are left out.
pub record DiskParts : Type 0 where
  pub project : List ℕ
  pub base : Option (List ℕ)
  pub names : Option (List ℕ)
  pub next : Option (List ℕ)
  pub new : List FoundParts
  pub files : List FoundParts

-- the bytes that stand under a name
abbrev pub bytes_at : List FoundParts → List ℕ → Option (List ℕ)
bytes_at files name = option_map (λ f. f.bytes) (find (λ f. same_bytes f.name name) files)

-- files, without what stands under a name
abbrev pub without : List FoundParts → List ℕ → List FoundParts
without files name = filter (λ f. not (same_bytes f.name name)) files

-- files, with bytes under a name, in the place of what stands there
abbrev pub with_bytes : List FoundParts → List ℕ → List ℕ → List FoundParts
with_bytes files name bytes = record { name = name; bytes = bytes } ∷ without files name

-- the names that are written down, if they are
abbrev pub names_or_none : Option (List ℕ) → List NamedParts
names_or_none None = []
names_or_none (Some bytes) = read_names bytes

-- What is read of a disk before a plan is made, beside the bundles and what else stands in the
-- folder. (The bundles of an older version of the program are no part of the disk.)
pub record IsRead (seen : SeenParts) (d : DiskParts) : Type 0 where
  pub project : seen.project ≡ d.project
  pub bases : seen.bases ≡ option_to_list d.base
  pub next : seen.next ≡ d.next
  pub unplaced : (book : List ℕ) →
      is_one_of seen.unplaced book ≡ is_some (bytes_at d.new book)
  pub names : seen.names ≡ names_or_none d.names
  pub files : (name : List ℕ) → bytes_at seen.files name ≡ bytes_at d.files name

-- ---- what is done on a disk

-- one thing that is done on a disk: the project, a book's new file, the base, the names or the next
-- base gets bytes; a book's new file or the next base is removed; a book's new file is renamed, and
-- is a file of the folder then; the program's folder or the folder is synced
pub data Act : Type 0 where
  SetProject : (bytes : List ℕ) → Act
  SetNew : (book text : List ℕ) → Act
  DropNew : (book : List ℕ) → Act
  SetBase : (bytes : List ℕ) → Act
  SetNames : (bytes : List ℕ) → Act
  SetNext : (bytes : List ℕ) → Act
  DropNext : Act
  Move : (book name : List ℕ) → Act
  OwnSynced : Act
  FolderSynced : Act

-- a disk after a book's new file, if there is one, was renamed
abbrev pub moved : DiskParts → List ℕ → List ℕ → Option (List ℕ) → DiskParts
moved d book name None = d
moved d book name (Some text) =
    record d { new = without d.new book; files = with_bytes d.files name text }

-- a disk after this was done
abbrev pub done : DiskParts → Act → DiskParts
done d (SetProject bytes) = record d { project = bytes }
done d (SetNew book text) = record d { new = with_bytes d.new book text }
done d (DropNew book) = record d { new = without d.new book }
done d (SetBase bytes) = record d { base = Some bytes }
done d (SetNames bytes) = record d { names = Some bytes }
done d (SetNext bytes) = record d { next = Some bytes }
done d DropNext = record d { next = None }
done d (Move book name) = moved d book name (bytes_at d.new book)
done d OwnSynced = d
done d FolderSynced = d

-- a disk after this was done, one after another
abbrev pub after : DiskParts → List Act → DiskParts
after d [] = d
after d (act ∷ later) = after (done d act) later

-- ---- what steps do

-- What stands in the program's folder when the base is settled. Older bases are left out, here and in
-- what steps do: by them it is only asked whether a file is meant.
abbrev pub unsettled : DiskParts → UnsettledParts
unsettled d = record {
  base = d.base;
  bases = option_to_list d.base;
  older = [];
  next = d.next;
  unplaced = map (λ f. f.name) d.new;
}

-- what a step does by which a base is settled
abbrev pub settling_act : SettlingParts → List Act
settling_act (settling.PutOlder at bytes) = []
settling_act (settling.PutBase bytes) = SetBase bytes ∷ []
settling_act settling.SyncOwn = OwnSynced ∷ []
settling_act settling.RemoveNext = DropNext ∷ []
settling_act (settling.RemoveNew book) = DropNew book ∷ []

-- what the steps do by which a base is settled, unless it is refused
abbrev pub settling_acts : Result (List SettlingParts) Refusal → Option (List Act)
settling_acts (Ok steps) = Some (flat_map settling_act steps)
settling_acts (Err refusal) = None

-- What a step does on a disk, or none where it is refused. A book's file may be left: since it was
-- changed after it was read, or cannot be replaced.
abbrev pub step_acts : (List ℕ → Bool) → DiskParts → StepParts → Option (List Act)
step_acts stays d (ReplaceProject bytes) = Some (SetProject bytes ∷ [])
step_acts stays d Settle = settling_acts (settling_steps (unsettled d) d.next)
step_acts stays d (RemoveNew book) = Some (DropNew book ∷ [])
step_acts stays d (WriteNew file) = Some (SetNew file.book file.text ∷ [])
step_acts stays d SyncOwn = Some (OwnSynced ∷ [])
step_acts stays d (PutBase bytes) = Some (SetBase bytes ∷ [])
step_acts stays d (PutNames bytes) = Some (SetNames bytes ∷ [])
step_acts stays d (PutNext bytes) = Some (SetNext bytes ∷ [])
step_acts stays d (PutInPlace book name replaces) =
    Some (if stays book then [] else Move book name ∷ [])
step_acts stays d SyncFolder = Some (FolderSynced ∷ [])

-- what is done, and what is done next; nothing more after a refusal
abbrev pub and_then : Option (List Act) → (List Act → List Act) → List Act
and_then None next = []
and_then (Some acts) next = acts ++ next acts

-- what steps do, one after another
abbrev pub acts_of : (List ℕ → Bool) → DiskParts → List StepParts → List Act
acts_of stays d [] = []
acts_of stays d (step ∷ later) =
    and_then (step_acts stays d step) (λ acts. acts_of stays (after d acts) later)

-- ---- what is left

-- whether this changes the names of the program's folder alone
abbrev pub is_own : Act → Bool
is_own (SetProject bytes) = false
is_own (SetNew book text) = true
is_own (DropNew book) = true
is_own (SetBase bytes) = true
is_own (SetNames bytes) = true
is_own (SetNext bytes) = true
is_own DropNext = true
is_own (Move book name) = false
is_own OwnSynced = false
is_own FolderSynced = false

-- whether this renames a new file into the folder
abbrev pub is_move : Act → Bool
is_move (SetProject bytes) = false
is_move (SetNew book text) = false
is_move (DropNew book) = false
is_move (SetBase bytes) = false
is_move (SetNames bytes) = false
is_move (SetNext bytes) = false
is_move DropNext = false
is_move (Move book name) = true
is_move OwnSynced = false
is_move FolderSynced = false

-- whether this is on the disk once that is done
abbrev pub is_synced_by : Act → Act → Bool
is_synced_by act OwnSynced = is_own act
is_synced_by act FolderSynced = is_move act
is_synced_by act other = false

-- Whether this is on the disk for certain, where that was done later. The project's file is synced
-- with its folder whenever it gets bytes; and what is written is synced before it gets its name.
abbrev pub is_certain : Act → List Act → Bool
is_certain act later = not (is_own act || is_move act) || list_any (is_synced_by act) later

-- What stands of all that was done, after a power cut: what is there for certain, and of the rest
-- any part, by chance. A renaming is there or it is not.
abbrev pub standing : (Act → List Act → Bool) → List Act → List Act
standing chance [] = []
standing chance (act ∷ later) =
    if is_certain act later || chance act later then act ∷ standing chance later
    else standing chance later

-- The disk after steps that were broken off once so much was done, by a power cut; or by a kill,
-- where chance lets all of it stand.
abbrev pub cut_short : (List ℕ → Bool) → (Act → List Act → Bool) → ℕ → DiskParts
    → List StepParts → DiskParts
cut_short stays chance n d steps = after d (standing chance (take n (acts_of stays d steps)))
