-- Laws of a sync that is cut short (this project's own rule): by a kill between any two things that
-- it does on the disk, or by a power cut.
use Rattle.std.specs.Prelude.{◌≡◌, ◌⊎◌, ℕ, Bool, true, false, List, [], ◌∷◌, ◌++◌, map, Option, None, Some, Result, Ok}
use Rattle.std.specs.List.{Contains}
use Rattle.std.specs.Option.{option_to_list}
use Rattle.project_file.specs.Projects.{project}
use Rattle.book_folder.specs.Bases.{base_as_read, next_base}
use Rattle.book_folder.specs.Begun.{is_one_of, settled}
use Rattle.book_folder.specs.Coming.{CameInParts, comes_in}
use Rattle.book_folder.specs.Disks.{Act, DiskParts, IsRead, bytes_at, cut_short, unsettled}
use Rattle.book_folder.specs.Files.{FileParts, clear_files}
use Rattle.book_folder.specs.Naming.{FormParts, form_of}
use Rattle.book_folder.specs.Plans.{NewFileParts, PlanParts, RemoveNew, StepParts, bytes_or, headless, new_files, plan_of, planned}
use Rattle.book_folder.specs.Refusals.{◌>>=◌}
use Rattle.book_folder.specs.Wanted.{SeenParts, WishParts}
use Rattle.book_folder.specs.declared.refusal.Refusal.{Refusal}

-- ---- the plan

-- the base that a plan puts first: the one that makes the files as they were read; where no book
-- gets a new file, that is the next base
abbrev pub first_base : CameInParts → List NewFileParts → Result (List ℕ) Refusal
first_base c [] = Ok (next_base (headless c.replica.held) c.replica.held)
first_base c (f ∷ later) = base_as_read c.stood c.base.held c.replica.held

-- a plan of what was read, with what came in, the new files, and the base that is put first
pub record IsPlan (seen : SeenParts) (wishes : WishParts) (c : CameInParts)
    (made : List NewFileParts) (base : List ℕ) (plan : PlanParts) : Type 0 where
  pub files : List FileParts
  pub clear : clear_files seen ≡ Ok files
  pub came : comes_in seen wishes files ≡ Ok c
  pub form : FormParts
  pub formed : form_of seen files wishes ≡ Ok form
  pub new : new_files seen c.replica.held files form ≡ Ok made
  pub first : first_base c made ≡ Ok base
  pub names : Option (List ℕ)
  pub planned : plan_of seen c made names ≡ Ok plan

-- ---- what is left of a sync

-- the base that a disk has once it was settled
abbrev pub settled_of : DiskParts → Option (List ℕ) → Result (Option (List ℕ)) Refusal
settled_of d None = Ok d.base
settled_of d (Some next) =
    settled (option_to_list d.base) next (unsettled d).unplaced >>= λ bytes. Ok (Some bytes)

-- a new file of a plan that was put: its text stands under this name, and no new file of its book
-- stands in the program's folder
pub record IsPut (d : DiskParts) (made : List NewFileParts) (name : List ℕ) : Type 0 where
  pub file : NewFileParts
  pub of : Contains made file
  pub under : file.name ≡ name
  pub text : bytes_at d.files name ≡ Some file.text
  pub gone : bytes_at d.new file.book ≡ None

-- a new file of a plan waits in the program's folder
abbrev pub Waits : DiskParts → NewFileParts → Type 0
Waits d f = bytes_at d.new f.book ≡ Some f.text

-- each new file of a plan waits
abbrev pub AllWait : DiskParts → List NewFileParts → Type 0
AllWait d made = (f : NewFileParts) → Contains made f → Waits d f

-- Each new file of a plan waits; or it does no more, and one is put under its name. (No two have one
-- name, but where the names of two books' files were written down as one.)
abbrev pub AllKnown : DiskParts → List NewFileParts → Type 0
AllKnown d made =
    (f : NewFileParts) → Contains made f →
    Waits d f ⊎ (bytes_at d.new f.book ≡ None) × IsPut d made f.name

-- a new file of a plan that was put, of a book whose new file was not left
pub record IsPutNext (left : List (List ℕ)) (d : DiskParts) (made : List NewFileParts)
    (name : List ℕ) : Type 0 where
  pub put : IsPut d made name
  pub next : is_one_of left put.file.book ≡ false

-- A file of the folder is as it was before, or is a new file of the plan that was put.
abbrev pub FilesAreKnown : DiskParts → DiskParts → List NewFileParts → Type 0
FilesAreKnown before d made =
    (name : List ℕ) → (bytes_at d.files name ≡ bytes_at before.files name) ⊎ IsPut d made name

-- what a sync has put where it is cut short: the project's bytes with what the bases brought, and
-- with all that came in; the base that it puts first, and the next one
pub record PutParts : Type 0 where
  pub began : List ℕ
  pub project : List ℕ
  pub base : List ℕ
  pub next : List ℕ

-- a base that makes the files as they are before any is put: the settled one, or the first that the
-- plan puts
abbrev pub MakesAsRead : DiskParts → PutParts → DiskParts → Type 0
MakesAsRead before put d =
    (settled_of before before.next ≡ Ok d.base) ⊎ (d.base ≡ Some put.base)

-- The next base is what it was, with the new files that stood beside it, and the base is what it
-- was, or is settled already.
pub record IsUnsettled (before d : DiskParts) : Type 0 where
  pub next : d.next ≡ before.next
  pub new : d.new ≡ before.new
  pub base : (d.base ≡ before.base) ⊎ (settled_of before before.next ≡ Ok d.base)

-- no next base is there; or that of the plan is, and each new file waits
abbrev pub NextIsReady : PutParts → List NewFileParts → DiskParts → Type 0
NextIsReady put made d = (d.next ≡ None) ⊎ (d.next ≡ Some put.next) × AllWait d made

-- The project before any file is put: nothing was done; or it has what the bases brought; or, where
-- no book gets a new file, it has all that came in, and the first base stands alone.
abbrev pub ProjectIsBegun : DiskParts → PutParts → DiskParts → Type 0
ProjectIsBegun before put d =
    (d ≡ before) ⊎ (d.project ≡ put.began)
    ⊎ (d.project ≡ put.project) × (d.base ≡ Some put.base) × (d.next ≡ None)

-- No file is put: each is as it was before; it is known what it was written from; and so is what the
-- project has.
pub record NoneIsPut (before : DiskParts) (put : PutParts) (made : List NewFileParts)
    (d : DiskParts) : Type 0 where
  pub files : d.files ≡ before.files
  pub project : ProjectIsBegun before put d
  pub known : IsUnsettled before d ⊎ MakesAsRead before put d × NextIsReady put made d

-- Files are put, of which there is one: the project has all that came in; the base that makes the
-- files as they were read and the next one are there; and each new file waits or was put.
pub record SomeArePut (before : DiskParts) (put : PutParts) (made : List NewFileParts)
    (d : DiskParts) : Type 0 where
  pub one : NewFileParts
  pub among : Contains made one
  pub project : d.project ≡ put.project
  pub base : d.base ≡ Some put.base
  pub next : d.next ≡ Some put.next
  pub files : FilesAreKnown before d made
  pub all : AllKnown d made

-- The base is settled: the project has all that came in; some books' files were left, of which the
-- base has what it had; each other new file was put. The next base is still there, with the new
-- files that were left, or it is not.
pub record BaseIsSettled (before : DiskParts) (put : PutParts) (made : List NewFileParts)
    (d : DiskParts) : Type 0 where
  pub one : NewFileParts
  pub among : Contains made one
  pub project : d.project ≡ put.project
  pub left : List (List ℕ)
  pub base : List ℕ
  pub of : settled (put.base ∷ []) put.next left ≡ Ok base
  pub is : d.base ≡ Some base
  pub next : (d.next ≡ None) ⊎ (d.next ≡ Some put.next) × AllKnown d made
  pub files : (name : List ℕ) →
      (bytes_at d.files name ≡ bytes_at before.files name) ⊎ IsPutNext left d made name
  pub others : (f : NewFileParts) → Contains made f →
      (is_one_of left f.book ≡ true) ⊎ IsPut d made f.name

-- what a sync may leave where it is cut short
pub data IsLeft (before : DiskParts) (put : PutParts) (made : List NewFileParts)
    (d : DiskParts) : Type 0 where
  NonePut : NoneIsPut before put made d → IsLeft before put made d
  SomePut : SomeArePut before put made d → IsLeft before put made d
  BaseSettled : BaseIsSettled before put made d → IsLeft before put made d

-- what a plan puts, where a project of these bytes was read
abbrev pub put_by : List ℕ → CameInParts → List ℕ → PutParts
put_by read c base = record {
  began = bytes_or read c.recovered;
  project = project c.replica;
  base = base;
  next = next_base (headless c.replica.held) c.replica.held;
}

-- Cut short, a sync leaves it known what each file was written from: wherever its steps are broken
-- off, and whatever part of what is not on the disk for certain a power cut leaves of them. Either
-- no file is other than before; or the project has all that came in, the bases are there by which
-- it is known of each file whether it was put, and each file is as it was or as the plan has it.
abbrev pub CutShortIsKnown : Type 0
CutShortIsKnown =
    (seen : SeenParts) (wishes : WishParts) (c : CameInParts) (made : List NewFileParts)
    (base : List ℕ) (plan : PlanParts) (d : DiskParts) →
    IsPlan seen wishes c made base plan → IsRead seen d →
    (stays : List ℕ → Bool) (chance : Act → List Act → Bool) (n : ℕ) →
    IsLeft d (put_by seen.project c base) made (cut_short stays chance n d plan.steps)

-- ---- done again

-- What is read where a sync was cut short before it put a base: what was read before, but for the
-- new files that stand in the program's folder by then.
abbrev pub with_new : SeenParts → List (List ℕ) → SeenParts
with_new seen books = record seen { unplaced = books }

-- A plan that has the same steps as another one, but for the new files that are removed first, and
-- says the same.
pub record IsPlanAgain (plan : PlanParts) (removed : List (List ℕ)) (again : PlanParts)
    (others : List (List ℕ)) : Type 0 where
  pub first : List StepParts
  pub last : List StepParts
  pub steps : plan.steps ≡ first ++ map RemoveNew removed ++ last
  pub same : again.steps ≡ first ++ map RemoveNew others ++ last
  pub told : again.told ≡ plan.told

-- Cut short before a base was put, a sync is done again: where no next base stands, the plan of what
-- was read with other new files in the program's folder is the same, but that these are removed.
abbrev pub CutEarlyIsDoneAgain : Type 0
CutEarlyIsDoneAgain =
    (seen : SeenParts) (wishes : WishParts) (plan : PlanParts) (books : List (List ℕ)) →
    seen.next ≡ None → planned seen wishes ≡ Ok plan →
    (again : PlanParts) × (planned (with_new seen books) wishes ≡ Ok again)
    × IsPlanAgain plan seen.unplaced again books
