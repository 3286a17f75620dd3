-- Laws of a sync that is cut short (this project's own rule): a sync of what stands then makes the
-- same project, and once a base was put it makes no edit again.
use Rattle.std.specs.Prelude.{◌≡◌, ◌⊎◌, ◌<◌, ◌^◌, ℕ, true, false, List, [], ◌∷◌, None, Some, Ok, length}
use Rattle.std.specs.List.{AllByRecursion, Contains, IsDistinct}
use Rattle.std.specs.Str.{is_utf8}
use Rattle.usfm_ref.specs.Keys.{KeyParts}
use Rattle.verse_cut.specs.Reading.{book_in}
use Rattle.op_core.specs.Export.{export, has_book}
use Rattle.op_core.specs.OneBook.{ops_of_book}
use Rattle.op_core.specs.Ops.{Operation}
use Rattle.bundle_codec.specs.Joining.{whole_at}
use Rattle.bundle_codec.specs.Spelling.{bundle}
use Rattle.project_file.specs.Projects.{project_at}
use Rattle.replica_state.specs.Imports.{loses_line}
use Rattle.replica_state.specs.States.{State}
use Rattle.book_folder.specs.Bases.{next_base, shown_in_files}
use Rattle.book_folder.specs.Begun.{BegunParts, begun_with, settled_base}
use Rattle.book_folder.specs.Coming.{CameInParts, comes_in}
use Rattle.book_folder.specs.Files.{FileParts, are_of_one_book}
use Rattle.book_folder.specs.FolderLaws.{IsOfBytes, IsSyncedFile}
use Rattle.book_folder.specs.Plans.{headless, is_whole}
use Rattle.book_folder.specs.ReadAgain.{pieces_by, read_base}
use Rattle.book_folder.specs.Restored.{in_manner_of}
use Rattle.book_folder.specs.Wanted.{SeenParts, WishParts}

-- ---- the whole sync

-- what a sync puts first: the base that makes the files as they were read
abbrev pub first_of : BegunParts → CameInParts → State
first_of b c = read_base c.stood b.base c.replica

-- what a sync puts next: what the books show that get a file
abbrev pub next_of : CameInParts → List Operation
next_of c = shown_in_files (headless c.replica.held) c.replica.held

-- A file that was written from a base, and that another base reads in the same way: it begins with
-- its book, no chapter lost all its verses and kept the line that the base makes for it, and the
-- line ends of the two bases' exports are of one manner.
pub record IsReadAlike (base again : State) (f : FileParts) : Type 0 where
  pub known : has_book base.held f.book ≡ true
  pub text : is_utf8 f.bytes ≡ true
  pub begun : book_in (in_manner_of (export base.held f.book) f.bytes) ≡ Ok f.book
  pub lines : (key : KeyParts) → loses_line base.held f.book (pieces_by base f) key ≡ false
  pub manner : in_manner_of (export again.held f.book) f.bytes
      ≡ in_manner_of (export base.held f.book) f.bytes

-- ---- what stands where it is cut short

-- what a base is once it was settled by the next one, but for some books
pub record IsSettledBy (unplaced : List (List ℕ)) (base next settled : List Operation)
    : Type 0 where
  pub bytes : List ℕ
  pub joined : settled_base unplaced base next ≡ Ok bytes
  pub read : whole_at bytes ≡ Ok settled

-- the next base stands
abbrev pub NextIsThere : SeenParts → CameInParts → Type 0
NextIsThere again c = again.next ≡ Some (next_base (headless c.replica.held) c.replica.held)

-- the project has each file's book, with its head
abbrev pub AreWhole : CameInParts → List FileParts → Type 0
AreWhole c files = AllByRecursion (λ f. is_whole c.replica.held f.book ≡ true) files

-- The project and the base. Either the project is the one with which the sync began: the base is the
-- first one that it put; or, where the project has each book of a file whole, the next one, since no
-- file is put, or the one before, since of both that were put only the next one is on the disk. Or
-- the project has all that came in: the base is the first one, or the next one, or is settled
-- already.
abbrev pub ProjectAndBase : SeenParts → BegunParts → CameInParts → List FileParts → List Operation
    → Type 0
ProjectAndBase again b c files base =
    (project_at again.project ≡ Ok b.replica)
    × ((base ≡ (first_of b c).held)
    ⊎ AreWhole c files × ((base ≡ next_of c) ⊎ (base ≡ b.base.held) × NextIsThere again c))
    ⊎ (project_at again.project ≡ Ok c.replica)
    × ((base ≡ (first_of b c).held) ⊎ (base ≡ next_of c)
    ⊎ ((left : List (List ℕ)) × IsSettledBy left (first_of b c).held (next_of c) base))

-- the base that stands, as a set; or none stands
abbrev pub BaseStands : SeenParts → List Operation → Type 0
BaseStands again base =
    ((bytes : List ℕ) × (again.bases ≡ bytes ∷ []) × (whole_at bytes ≡ Ok base))
    ⊎ (again.bases ≡ []) × (base ≡ [])

-- what the files were written from: the base; or, where the next one stands beside it, that one
-- settled by it
abbrev pub WrittenFrom : SeenParts → CameInParts → List Operation → List Operation → Type 0
WrittenFrom again c base from =
    (again.next ≡ None) × (from ≡ base)
    ⊎ NextIsThere again c × IsSettledBy again.unplaced base (next_of c) from

-- a file of the folder as it was read, under whatever name
pub record WasRead (files : List FileParts) (f : FileParts) : Type 0 where
  pub file : FileParts
  pub among : Contains files file
  pub book : file.book ≡ f.book
  pub bytes : file.bytes ≡ f.bytes

-- A file that stands there: one that the sync read, which was written from what the first base has
-- of its book, or, where the base before stands, from that; or one as a sync leaves it, which was
-- written from what the next one has.
abbrev pub IsLeftFile : BegunParts → CameInParts → List FileParts → List Operation
    → List Operation → FileParts → Type 0
IsLeftFile b c files base from f =
    WasRead files f × ((ops_of_book from f.book ≡ ops_of_book (first_of b c).held f.book)
    ⊎ (base ≡ b.base.held) × (ops_of_book from f.book ≡ ops_of_book b.base.held f.book))
    ⊎ IsSyncedFile c.replica.held f × (ops_of_book from f.book ≡ ops_of_book (next_of c) f.book)

-- What is read after a sync was cut short once it put a base: the project, the base and
-- perhaps the next one; its files, and those that it put in their places; and the bundles and the
-- older bases that it read.
pub record IsLeftOf (seen again : SeenParts) (b : BegunParts) (c : CameInParts)
    (files now : List FileParts) : Type 0 where
  pub base : List Operation
  pub bases : BaseStands again base
  pub project : ProjectAndBase again b c files base
  pub from : List Operation
  pub next : WrittenFrom again c base from
  pub each : AllByRecursion (IsLeftFile b c files base from) now
  pub older : again.older ≡ seen.older
  pub bundles : again.bundles ≡ seen.bundles

-- ---- done again

-- All comes in again: the project is the same, and no file makes an edit.
pub record IsDoneAgain (again : SeenParts) (wishes : WishParts) (now : List FileParts)
    (c : CameInParts) : Type 0 where
  pub came : CameInParts
  pub comes : comes_in again wishes now ≡ Ok came
  pub same : came.replica ≡ c.replica
  pub added : came.added ≡ []

-- Cut short once it put a base, a sync is done again: of what stands then, and of the same
-- bundles, the same project comes, and no edit is made again. So the exports are the same, the
-- report is, and so is each text that a file is to get. Each file was written from a base; no
-- conflict is to be settled, and nothing is asked of a base that has nothing in common with the
-- project.
abbrev pub CutShortIsDoneAgain : Type 0
CutShortIsDoneAgain =
    (seen again : SeenParts) (wishes : WishParts) (files now : List FileParts) (s : State)
    (b : BegunParts) (c : CameInParts) →
    IsOfBytes seen → project_at seen.project ≡ Ok s →
    length (bundle (first_of b c).held) < 2 ^ 64 → length (bundle (next_of c)) < 2 ^ 64 →
    wishes.settled ≡ [] → wishes.stale ≡ false → wishes.joined ≡ true →
    begun_with seen wishes ≡ Ok b → comes_in seen wishes files ≡ Ok c →
    IsDistinct are_of_one_book files →
    AllByRecursion (IsReadAlike b.base (first_of b c)) files →
    IsLeftOf seen again b c files now → IsDoneAgain again wishes now c

-- ---- cut short before its first base

-- the next base and the new files that stood there beside it
abbrev pub NextStays : SeenParts → SeenParts → Type 0
NextStays seen again = (again.next ≡ seen.next) × (again.unplaced ≡ seen.unplaced)

-- The bases that stood there, with the next one, if there was one; or the one that was settled of
-- them, alone, or with the next one beside it still.
abbrev pub BasesStand : SeenParts → SeenParts → BegunParts → Type 0
BasesStand seen again b =
    (again.bases ≡ seen.bases)
    × (NextStays seen again ⊎ (again.next ≡ None) × (seen.next ≡ None))
    ⊎ ((bytes : List ℕ) × (again.bases ≡ bytes ∷ []) × (whole_at bytes ≡ Ok b.base.held)
    × ((again.next ≡ None) ⊎ NextStays seen again))

-- What is read after a sync was cut short before it put a base of its own: the project with what its
-- bases brought, these bases, and the bundles and the older bases that it read.
pub record IsLeftEarly (seen again : SeenParts) (b : BegunParts) : Type 0 where
  pub project : project_at again.project ≡ Ok b.replica
  pub bases : BasesStand seen again b
  pub older : again.older ≡ seen.older
  pub bundles : again.bundles ≡ seen.bundles

-- what came in, but that the bases brought nothing
abbrev pub with_nothing_new : CameInParts → CameInParts
with_nothing_new c = record {
  recovered = None;
  new = 0;
  base = c.base;
  replica = c.replica;
  bundles = c.bundles;
  added = c.added;
  stood = c.stood;
}

-- Cut short before it put a base of its own, once the project has what the bases brought, a sync is
-- done again: of the same bundles and files all comes in as it did, but for what the bases brought.
abbrev pub RecoveredComesInAgain : Type 0
RecoveredComesInAgain =
    (seen again : SeenParts) (wishes : WishParts) (files : List FileParts) (s : State)
    (b : BegunParts) (c : CameInParts) →
    IsOfBytes seen → project_at seen.project ≡ Ok s → wishes.stale ≡ false →
    begun_with seen wishes ≡ Ok b → comes_in seen wishes files ≡ Ok c → IsLeftEarly seen again b →
    comes_in again wishes files ≡ Ok (with_nothing_new c)
