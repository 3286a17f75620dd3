-- A law of a sync that is cut short (this project's own rule): a sync of what stands on the disk
-- then makes the same project.
use Rattle.std.specs.Prelude.{◌≡◌, ◌<◌, ◌^◌, ℕ, Bool, true, false, List, [], Ok, length}
use Rattle.std.specs.List.{AllByRecursion, IsDistinct}
use Rattle.usfm_ref.specs.Books.{same_bytes}
use Rattle.op_core.specs.Export.{export}
use Rattle.bundle_codec.specs.Spelling.{bundle}
use Rattle.project_file.specs.Projects.{project, project_at}
use Rattle.replica_state.specs.States.{State}
use Rattle.book_folder.specs.Begun.{BegunParts, begun_with}
use Rattle.book_folder.specs.Coming.{CameInParts, comes_in}
use Rattle.book_folder.specs.CutShort.{IsPlan}
use Rattle.book_folder.specs.Disks.{Act, DiskParts, IsRead, cut_short}
use Rattle.book_folder.specs.DoneAgain.{AreWhole, IsReadAlike, first_of, next_of}
use Rattle.book_folder.specs.Files.{FileParts, are_of_one_book, clear_files}
use Rattle.book_folder.specs.FolderLaws.{HasOneManner, IsOfBytes}
use Rattle.book_folder.specs.Plans.{NewFileParts, PlanParts, bytes_or, is_whole}
use Rattle.book_folder.specs.Wanted.{FoundParts, SeenParts, WishParts}

-- whether two files of a folder have one name
abbrev pub same_name : FoundParts → FoundParts → Bool
same_name x y = same_bytes x.name y.name

-- What is read again of a disk that was read before: what stands there now, with the older bases and
-- the bundles that were read. Of what stands as it did, the same is read; no two files have one name.
pub record IsReadAgain (seen : SeenParts) (before : DiskParts) (again : SeenParts) (d : DiskParts)
    : Type 0 where
  pub read : IsRead again d
  pub older : again.older ≡ seen.older
  pub bundles : again.bundles ≡ seen.bundles
  pub files : d.files ≡ before.files → again.files ≡ seen.files
  pub unplaced : d.new ≡ before.new → again.unplaced ≡ seen.unplaced
  pub distinct : IsDistinct same_name again.files

-- A whole sync: what it read of the disk, what came in, and its plan. Each file was written from the
-- base and is of a book that the project has whole, and the lines of each such book's text end in
-- one manner; what the bases brought is in the project's bytes; and the project and the bases that
-- it puts are short enough to be read.
pub record IsWholeSync (seen : SeenParts) (wishes : WishParts) (s : State) (b : BegunParts)
    (c : CameInParts) (made : List NewFileParts) (base : List ℕ) (plan : PlanParts) (d : DiskParts)
    : Type 0 where
  pub bytes : IsOfBytes seen
  pub is : project_at seen.project ≡ Ok s
  pub begun : begun_with seen wishes ≡ Ok b
  pub plan_is : IsPlan seen wishes c made base plan
  pub read : IsRead seen d
  pub distinct : IsDistinct are_of_one_book plan_is.files
  pub each : AllByRecursion (IsReadAlike b.base (first_of b c)) plan_is.files
  pub whole : AreWhole c plan_is.files
  pub manner : (book : List ℕ) → is_whole c.replica.held book ≡ true →
      HasOneManner (export c.replica.held book)
  pub began : project_at (bytes_or seen.project c.recovered) ≡ Ok b.replica
  pub short : length (project c.replica) < 2 ^ 64
  pub first : length (bundle (first_of b c).held) < 2 ^ 64
  pub next : length (bundle (next_of c)) < 2 ^ 64

-- Wherever a sync is cut short, by a kill or a power cut, a sync of what stands on the disk then
-- makes the same project: so the exports are the same, and the report is. No conflict is to be
-- settled, and nothing is asked of a base that has nothing in common with the project.
abbrev pub CutShortMakesTheSame : Type 0
CutShortMakesTheSame =
    (seen again : SeenParts) (wishes : WishParts) (s : State) (b : BegunParts)
    (c : CameInParts) (now : List FileParts) (made : List NewFileParts) (base : List ℕ)
    (plan : PlanParts) (d : DiskParts) →
    wishes.settled ≡ [] → wishes.stale ≡ false → wishes.joined ≡ true →
    IsWholeSync seen wishes s b c made base plan d →
    (stays : List ℕ → Bool) (chance : Act → List Act → Bool) (n : ℕ) →
    IsReadAgain seen d again (cut_short stays chance n d plan.steps) →
    clear_files again ≡ Ok now →
    (came : CameInParts) × (comes_in again wishes now ≡ Ok came) × (came.replica ≡ c.replica)
