-- What is said once the steps of a plan were done, and what the project is then (this project's own
-- rule).
use Rattle.std.specs.Prelude.{◌≡◌, ℕ, ◌==◌, nat_lt, Bool, false, not, ◌&&◌, List, [], ◌∷◌, ◌++◌, length, map, take, Option, None, Some, Ok, if◌then◌else◌, string_bytes}
use Rattle.std.specs.List.{enumerate_from, filter_map}
use Rattle.usfm_ref.specs.Keys.{KeyParts}
use Rattle.project_file.specs.Projects.{project}
use Rattle.book_folder.specs.Coming.{AddedParts, CameInParts}
use Rattle.book_folder.specs.Files.{is_one_of}
use Rattle.book_folder.specs.Plans.{NewFileParts, PlanParts, StepParts, ToldParts, PutInPlace, ReplaceProject, plan_of}
use Rattle.book_folder.specs.Wanted.{SeenParts}
use Rattle.book_folder.specs.declared.done.Line.{Line}
use Rattle.book_folder.specs.declared.done.Line.TheVariants as lines

-- ---- what is said

-- A line: how many operations the base brought; or a bundle that is given by itself; or one of a
-- box, by its place among all; how many edits a book's file made; the name of a file that was
-- written, or was left; how many segments are in conflict; one of them.
pub data LineParts : Type 0 where
  NewBase : (count : ℕ) → LineParts
  New : (count : ℕ) → LineParts
  NewInBox : (count at : ℕ) → LineParts
  Added : (count : ℕ) (book : List ℕ) → LineParts
  Wrote : (name : List ℕ) → LineParts
  Left : (name : List ℕ) → LineParts
  Conflicts : (count : ℕ) → LineParts
  Conflict : (book : List ℕ) (key : KeyParts) → LineParts

-- a line, as a contract sees it
abbrev pub line_view : Line → LineParts
line_view (lines.NewBase count) = NewBase count
line_view (lines.New count) = New count
line_view (lines.NewInBox count at) = NewInBox count at
line_view (lines.Added count book) = Added count book
line_view (lines.Wrote name) = Wrote (string_bytes name)
line_view (lines.Left name) = Left (string_bytes name)
line_view (lines.Conflicts count) = Conflicts count
line_view (lines.Conflict book key) = Conflict book key

-- the line of the base, where it brought something
abbrev pub base_lines : ℕ → List LineParts
base_lines count = if count == 0 then [] else NewBase count ∷ []

-- whether a place is this one
abbrev pub is_at : Option ℕ → ℕ → Bool
is_at None at = false
is_at (Some own) at = own == at

-- the line of a bundle that has this place: the first so many are given by themselves, and the
-- others are of a box; a copy's own has none where it brought nothing
abbrev pub bundle_line : ℕ → Option ℕ → ℕ × ℕ → Option LineParts
bundle_line named own (at, count) =
    if count == 0 && is_at own at then None
    else Some (if nat_lt at named then New count else NewInBox count at)

-- the lines of the bundles, in their order
abbrev pub bundle_lines : ℕ → Option ℕ → List ℕ → List LineParts
bundle_lines named own counts = filter_map (bundle_line named own) (enumerate_from 0 counts)

-- the line of a file that made edits
abbrev pub added_line : AddedParts → LineParts
added_line a = Added a.count a.book

-- the line of a step that puts a book's new file in its place: it was left, or written
abbrev pub step_line : List (List ℕ) → StepParts → Option LineParts
step_line left (PutInPlace book name replaces) =
    Some (if is_one_of left book then Left name else Wrote name)
step_line left step = None

-- the line of how many segments are in conflict, where some are, or something is awaited
abbrev pub count_lines : ToldParts → List LineParts
count_lines t =
    if length t.conflicts == 0 && not t.awaits then []
    else Conflicts (length t.conflicts) ∷ []

-- the line of a segment that is in conflict
abbrev pub conflict_line : List ℕ × KeyParts → LineParts
conflict_line c = Conflict c.0 c.1

-- What is said of a plan once its steps were done but for the files that were left: what the base,
-- the bundles and the files brought, the files that were written or left, and what is in conflict,
-- of which the first twenty are named.
abbrev pub lines_of : PlanParts → List (List ℕ) → ℕ → Option ℕ → List LineParts
lines_of p left named own =
    base_lines p.told.base ++ bundle_lines named own p.told.bundles
    ++ map added_line p.told.files ++ filter_map (step_line left) p.steps
    ++ count_lines p.told ++ map conflict_line (take 20 p.told.conflicts)

-- ---- the project

-- the project's bytes after a step
abbrev pub replaced_by : List ℕ → StepParts → List ℕ
replaced_by bytes (ReplaceProject new) = new
replaced_by bytes step = bytes

-- the project's bytes after steps
abbrev pub project_after : List ℕ → List StepParts → List ℕ
project_after bytes [] = bytes
project_after bytes (step ∷ later) = project_after (replaced_by bytes step) later

-- The steps make the project: once the steps of a plan were done, the project is the one into which
-- all came in.
abbrev pub StepsMakeProject : Type 0
StepsMakeProject =
    (seen : SeenParts) (c : CameInParts) (made : List NewFileParts) (names : Option (List ℕ))
    (p : PlanParts) →
    plan_of seen c made names ≡ Ok p → project_after seen.project p.steps ≡ project c.replica
