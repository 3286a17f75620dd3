-- A law of a sync that was done whole (this project's own rule): it leaves a folder as "twice is
-- once" asks it to be.
use Rattle.std.specs.Prelude.{◌≡◌, ◌<◌, ◌^◌, ℕ, Bool, true, false, List, [], None, Ok, length}
use Rattle.std.specs.List.{AllByRecursion, IsDistinct}
use Rattle.std.specs.Str.{is_utf8}
use Rattle.usfm_ref.specs.Books.{same_bytes}
use Rattle.op_core.specs.Export.{export}
use Rattle.bundle_codec.specs.Spelling.{bundle}
use Rattle.project_file.specs.Projects.{project, project_at}
use Rattle.replica_state.specs.States.{State}
use Rattle.book_folder.specs.Begun.{BegunParts, begun_with}
use Rattle.book_folder.specs.Coming.{CameInParts}
use Rattle.book_folder.specs.CutDisk.{same_name}
use Rattle.book_folder.specs.CutShort.{IsPlan}
use Rattle.book_folder.specs.Disks.{DiskParts, IsRead, acts_of, after}
use Rattle.book_folder.specs.DoneAgain.{AreWhole, first_of, next_of}
use Rattle.book_folder.specs.Files.{FileParts, are_of_one_book, clear_files}
use Rattle.book_folder.specs.FolderLaws.{HasOneManner, IsOfBytes, IsSynced}
use Rattle.book_folder.specs.Naming.{other_names}
use Rattle.book_folder.specs.Plans.{NewFileParts, PlanParts, StepParts, is_whole}
use Rattle.book_folder.specs.Wanted.{SeenParts, WishParts}

-- the disk once each step was done, and no file was left
abbrev pub all_done : DiskParts → List StepParts → DiskParts
all_done d steps = after d (acts_of (λ book. false) d steps)

-- whether two new files have one name
abbrev pub same_new_name : NewFileParts → NewFileParts → Bool
same_new_name f g = same_bytes f.name g.name

-- A whole sync: what it read of the disk, what came in, and its plan. Each file is a text of a book
-- that the project has whole then, and the lines of each such book's text end in one manner; no two
-- files have one name, nor two new ones; no file is taken as older; and the project and the bases
-- that it puts are short enough to be read.
pub record IsDoneSync (seen : SeenParts) (wishes : WishParts) (s : State) (b : BegunParts)
    (c : CameInParts) (made : List NewFileParts) (base : List ℕ) (plan : PlanParts) (d : DiskParts)
    : Type 0 where
  pub bytes : IsOfBytes seen
  pub is : project_at seen.project ≡ Ok s
  pub fresh : wishes.stale ≡ false
  pub begun : begun_with seen wishes ≡ Ok b
  pub plan_is : IsPlan seen wishes c made base plan
  pub read : IsRead seen d
  pub distinct : IsDistinct are_of_one_book plan_is.files
  pub names : IsDistinct same_name seen.files
  pub new_names : IsDistinct same_new_name made
  pub texts : AllByRecursion (λ f. is_utf8 f.bytes ≡ true) plan_is.files
  pub whole : AreWhole c plan_is.files
  pub manner : (book : List ℕ) → is_whole c.replica.held book ≡ true →
      HasOneManner (export c.replica.held book)
  pub short : length (project c.replica) < 2 ^ 64
  pub first : length (bundle (first_of b c).held) < 2 ^ 64
  pub next : length (bundle (next_of c)) < 2 ^ 64

-- What is read of the disk then, with no bundle given: no two files have one name, it is known which
-- file is a book's, and the names of the files are those that are written down.
pub record IsReadThen (again : SeenParts) (now : List FileParts) (d : DiskParts) : Type 0 where
  pub read : IsRead again d
  pub bundles : again.bundles ≡ []
  pub distinct : IsDistinct same_name again.files
  pub clear : clear_files again ≡ Ok now
  pub names : other_names again now [] ≡ None

-- A sync of which each step was done, and no file was left, leaves a project and a folder as "twice
-- is once" asks them to be: the one base has what the books show that get a file, nothing is left of
-- what was written, each book of which the project has the head has a file like its text, and each
-- file is such a one.
abbrev pub DoneIsSynced : Type 0
DoneIsSynced =
    (seen again : SeenParts) (wishes : WishParts) (s : State) (b : BegunParts) (c : CameInParts)
    (now : List FileParts) (made : List NewFileParts) (base : List ℕ) (plan : PlanParts)
    (d : DiskParts) →
    IsDoneSync seen wishes s b c made base plan d →
    IsReadThen again now (all_done d plan.steps) → IsSynced again now c.replica
