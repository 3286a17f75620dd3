-- Laws of a sync as a whole (this project's own rule): what a project is once all came in, and what
-- the base that is written has.
use Rattle.std.specs.Prelude.{◌≡◌, ◌⊎◌, ◌<◌, ◌^◌, ℕ, ◌==◌, true, false, List, [], ◌∷◌, Option, None, Some, Ok, IsTrue, length}
use Rattle.std.specs.List.{AllByRecursion, Contains, IsDistinct, list_any}
use Rattle.std.specs.Str.{IsUtf8, is_utf8}
use Rattle.op_core.specs.Export.{export}
use Rattle.op_core.specs.Ops.{Operation, is_segment}
use Rattle.op_core.specs.Sets.{IsOpSet, get, clash, join}
use Rattle.op_core.specs.Thinned.{is_legal}
use Rattle.bundle_codec.specs.Joining.{whole_at}
use Rattle.bundle_codec.specs.Reading.{AreBytes}
use Rattle.bundle_codec.specs.Spelling.{bundle}
use Rattle.project_file.specs.Projects.{project_at}
use Rattle.replica_state.specs.Runs.{NoneRefused, after_all}
use Rattle.replica_state.specs.States.{State}
use Rattle.replica_state.specs.Steps.{Command, Receive, Edit, EditOver, Import, Thin}
use Rattle.replica_state.specs.World.Schedules.{Holds}
use Rattle.book_folder.specs.AsWritten.{are_alike}
use Rattle.book_folder.specs.Bases.{base_as_read, next_base, shown_in_files}
use Rattle.book_folder.specs.Coming.{CameInParts, comes_in, older_from}
use Rattle.book_folder.specs.Files.{FileParts, are_of_one_book, book_begun, clear_files, file_of}
use Rattle.book_folder.specs.Likes.{like, line_ends, plain}
use Rattle.book_folder.specs.Naming.{FormParts, form_of, other_names}
use Rattle.book_folder.specs.Plans.{NewFileParts, headless, is_like_file, is_whole, new_files, planned, told_of}
use Rattle.book_folder.specs.Taking.{StoodParts}
use Rattle.book_folder.specs.Wanted.{SeenParts, WishParts}

-- ---- like a schedule

-- a receiving of a legal set, or an edit over given ids that gives a text to a segment within its
-- ranges
abbrev pub IsReceivingOrEdit : Command → Type 0
IsReceivingOrEdit (Receive bundle) = IsOpSet bundle × IsTrue (is_legal bundle)
IsReceivingOrEdit (Edit g text) = ⊥
IsReceivingOrEdit (EditOver g text given) = IsTrue (is_segment g) × IsUtf8 text
IsReceivingOrEdit (Import file) = ⊥
IsReceivingOrEdit Thin = ⊥

-- A replica is reached from another one by receivings of legal sets and edits over given ids, one
-- after another, of which none is refused. So each set agrees with what is held by then, and each
-- edit's text fits its segment, which shows the ids that the edit is over.
pub record Reached (s t : State) : Type 0 where
  pub commands : List Command
  pub each : AllByRecursion IsReceivingOrEdit commands
  pub taken : NoneRefused s commands
  pub after : after_all s commands ≡ t

-- what may be there is bytes, if it is
abbrev pub MayBeBytes : Option (List ℕ) → Type 0
MayBeBytes None = Unit {0}
MayBeBytes (Some bytes) = AreBytes bytes

-- the project, the bases and the bundles that were read are bytes
pub record IsOfBytes (seen : SeenParts) : Type 0 where
  pub project : AreBytes seen.project
  pub bases : AllByRecursion AreBytes seen.bases
  pub next : MayBeBytes seen.next
  pub older : AllByRecursion AreBytes seen.older
  pub bundles : AllByRecursion AreBytes seen.bundles

-- Like a schedule: once all came in, the project is reached from the one that was read by
-- receivings and edits over given ids. So all that holds of these holds of a sync.
abbrev pub LikeASchedule : Type 0
LikeASchedule =
    (seen : SeenParts) (wishes : WishParts) (files : List FileParts) (s : State)
    (c : CameInParts) →
    IsOfBytes seen → project_at seen.project ≡ Ok s → comes_in seen wishes files ≡ Ok c →
    Reached s c.replica

-- ---- the base that is written

-- a legal set with operations of another one alone
pub record IsLegalPart (held part : List Operation) : Type 0 where
  pub set : IsOpSet part
  pub legal : IsTrue (is_legal part)
  pub within : (o : Operation) → Contains part o → Contains held o

-- The base that makes the files as they are written is a legal part of what the project holds.
abbrev pub NextBaseIsPart : Type 0
NextBaseIsPart =
    (none : List (List ℕ)) (held : List Operation) → IsOpSet held → IsTrue (is_legal held) →
    IsLegalPart held (shown_in_files none held)

-- The base makes the files: it exports each book that gets a file as the project does.
abbrev pub BaseMakesFiles : Type 0
BaseMakesFiles =
    (held : List Operation) (book : List ℕ) → IsOpSet held → is_whole held book ≡ true →
    export (shown_in_files (headless held) held) book ≡ export held book

-- The base that makes the files as they were read has operations of the project alone, each perhaps
-- with its text where the project has it without, if the base before it was received.
abbrev pub BaseAsReadIsHeld : Type 0
BaseAsReadIsHeld =
    (stood : List StoodParts) (base held : List Operation) (bytes : List ℕ)
    (ops : List Operation) (o : Operation) →
    IsOpSet base → IsOpSet held → length (bundle base) < 2 ^ 64 → length (bundle held) < 2 ^ 64 →
    clash held base ≡ None → join held base ≡ held →
    base_as_read stood base held ≡ Ok bytes → whole_at bytes ≡ Ok ops → get ops o.id ≡ Some o →
    Holds held o

-- ---- twice is once

-- A book's file as a sync leaves it: the project has the book's head, and the file is a text like
-- the book's export, all lines of which end in one manner.
pub record IsSyncedFile (held : List Operation) (f : FileParts) : Type 0 where
  pub whole : is_whole held f.book ≡ true
  pub alike : like (export held f.book) f.bytes ≡ true
  pub text : is_utf8 f.bytes ≡ true
  pub ends : are_alike (line_ends (export held f.book)) ≡ true

-- all lines of a text end in one manner, and it has no CR but in the ends of its lines
pub record HasOneManner (text : List ℕ) : Type 0 where
  pub ends : are_alike (line_ends text) ≡ true
  pub none_else : list_any (λ b. b == 13) (plain text) ≡ false

-- A new file of a plan is as a sync leaves it once it was put, under whatever name: it begins with
-- its book and is like the book's text, where the lines of that end in one manner.
abbrev pub NewFilesAreLeftSo : Type 0
NewFilesAreLeftSo =
    (seen : SeenParts) (held : List Operation) (files : List FileParts) (form : FormParts)
    (made : List NewFileParts) (g : NewFileParts) (f : FileParts) →
    IsOpSet held → new_files seen held files form ≡ Ok made → Contains made g →
    HasOneManner (export held g.book) → f.bytes ≡ g.text → book_begun f.bytes ≡ Some f.book →
    (f.book ≡ g.book) × IsSyncedFile held f

-- Each other file is so: a file of a book of which the project has the head gets a new one under its
-- name, or is as a sync leaves it, where the lines of the book's text end in one manner.
abbrev pub OtherFilesAreLeftSo : Type 0
OtherFilesAreLeftSo =
    (seen : SeenParts) (held : List Operation) (files : List FileParts) (form : FormParts)
    (made : List NewFileParts) (f : FileParts) →
    new_files seen held files form ≡ Ok made → IsDistinct are_of_one_book files →
    Contains files f → is_whole held f.book ≡ true → is_utf8 f.bytes ≡ true →
    HasOneManner (export held f.book) →
    ((g : NewFileParts) × Contains made g × (g.book ≡ f.book) × (g.name ≡ f.name))
    ⊎ IsSyncedFile held f

-- A project and its folder as a sync leaves them, with no bundle given: the one base has what the
-- books show that get a file; nothing is left of a sync that was cut short; each book of which the
-- project has the head has a file like its text; each file is such a one; and the names of the
-- files are those that were written down.
pub record IsSynced (seen : SeenParts) (files : List FileParts) (s : State) : Type 0 where
  pub project : project_at seen.project ≡ Ok s
  pub base : seen.bases ≡ next_base (headless s.held) s.held ∷ []
  pub next : seen.next ≡ None
  pub unplaced : seen.unplaced ≡ []
  pub bundles : seen.bundles ≡ []
  pub clear : clear_files seen ≡ Ok files
  pub books : (book : List ℕ) → is_whole s.held book ≡ true →
      is_like_file (file_of files book) (export s.held book) ≡ true
  pub each : AllByRecursion (IsSyncedFile s.held) files
  pub names : other_names seen files [] ≡ None

-- what comes in where nothing does
abbrev pub nothing_came : State → CameInParts
nothing_came s = record {
  recovered = None;
  new = 0;
  base = record { name = s.name; held = shown_in_files (headless s.held) s.held };
  replica = s;
  bundles = [];
  added = [];
  stood = [];
}

-- nothing comes in, the project stays, and there is nothing to do on the disk
pub record NothingIsDone (seen : SeenParts) (wishes : WishParts) (files : List FileParts)
    (s : State) : Type 0 where
  pub comes : comes_in seen wishes files ≡ Ok (nothing_came s)
  pub plan : planned seen wishes ≡ Ok (record { steps = []; told = told_of (nothing_came s) })

-- Twice is once: a sync of what a sync left does nothing, where the older bases are bundles, no
-- conflict is to be settled, and the name that may be asked for is one.
abbrev pub TwiceIsOnce : Type 0
TwiceIsOnce =
    (seen : SeenParts) (wishes : WishParts) (files : List FileParts) (s : State)
    (older : List State) (form : FormParts) →
    AreBytes seen.project → length (next_base (headless s.held) s.held) < 2 ^ 64 →
    older_from s.name 0 [] seen.older ≡ Ok older → wishes.settled ≡ [] →
    form_of seen files wishes ≡ Ok form → IsSynced seen files s → NothingIsDone seen wishes files s
