-- How a project stands, beside the files of other copies (this project's own rule).
use Rattle.std.specs.Prelude.{◌≡◌, ℕ, suc, nat_eq, nat_le, Bool, List, [], ◌∷◌, ◌++◌, length, filter, Vec, IsOk, IsTrue}
use Rattle.std.specs.Prelude.{Option, None, Some, Result, Ok, Err, if◌then◌else◌}
use Rattle.std.specs.List.{starts_with, flat_map}
use Rattle.usfm_ref.specs.Keys.{KeyParts}
use Rattle.usfm_ref.specs.Segments.{segment}
use Rattle.op_core.specs.Ops.{Operation}
use Rattle.op_core.specs.Sets.{IsOpSet}
use Rattle.op_core.specs.Export.{has_book}
use Rattle.op_core.specs.Lists.{books_of, keys_of}
use Rattle.op_core.specs.Thinned.{all_full}
use Rattle.bundle_codec.specs.declared.fault.WholeFault.{WholeFault}
use Rattle.bundle_codec.specs.Joining.{whole_at}
use Rattle.bundle_codec.specs.Summaries.{NameRanges, summary_of, summary_magic}
use Rattle.bundle_codec.specs.SummaryReading.{read_summary}
use Rattle.replica_state.specs.States.{State}
use Rattle.project_file.specs.declared.fault.LoadFault.{LoadFault}
use Rattle.conflict_report.specs.Reports.{distinct_texts}
use Rattle.versification.specs.Versifications.{Verses, versification_of}
use Rattle.project_status.specs.Numbers.{conflict_keys}
use Rattle.project_status.specs.Others.{OtherParts, status}
use Rattle.project_status.specs.Progress.{book_progress}
use Rattle.usfm_cli.specs.Commands.{is_late_in}
use Rattle.command_faults.specs.Faults.{of_loading, of_whole}
use Rattle.usfm_cli.specs.Missing.{by_verses}
use Rattle.usfm_cli.specs.Turns.{RefusedFor}
use Rattle.command_faults.specs.declared.fault.Fault.{Fault}
use Rattle.command_faults.specs.declared.fault.Fault.TheVariants.{Memory, BadSummary, NoBook}
use Rattle.usfm_cli.specs.declared.turns.TurnFault.{TurnFault}
use Rattle.usfm_cli.specs.declared.turns.TurnFault.TheVariants.{Project, Turn}

-- the items that are answered, or a refusal
abbrev pub as_list : {X A F : Type 0} → Result (Vec X A) F → Result (List X) F
as_list (Ok items) = Ok items.items
as_list (Err fault) = Err fault

-- ---- what files tell of other copies

-- a file by its name and its bytes
pub record FileParts : Type 0 where
  pub name : List ℕ
  pub bytes : List ℕ

-- the ids of a summary, or that the bytes are none
abbrev pub summary_or : Option (List NameRanges) → Result (List NameRanges) Fault
summary_or (Some known) = Ok known
summary_or None = Err BadSummary

-- the ids of a bundle's set, or the bundle's fault
abbrev pub ids_of_bundle : Result (List Operation) WholeFault → Result (List NameRanges) Fault
ids_of_bundle (Ok ops) = Ok (summary_of ops)
ids_of_bundle (Err fault) = Err (of_whole fault)

-- whether bytes begin as a summary does
abbrev pub is_like_summary : List ℕ → Bool
is_like_summary bytes = starts_with nat_eq bytes summary_magic

-- the ids that a file tells: what begins as a summary does is read as one, all else as a bundle
abbrev pub known_of : List ℕ → Result (List NameRanges) Fault
known_of bytes = if is_like_summary bytes then summary_or (read_summary bytes)
    else ids_of_bundle (whole_at bytes)

-- What is answered of a file: the ids that it tells, or its fault; or out of memory, where that may
-- be answered.
abbrev pub Tells : List ℕ → Result (List NameRanges) Fault → Type 0
Tells bytes (Ok known) = known_of bytes ≡ Ok known
Tells bytes (Err fault) = RefusedFor (is_late_in bytes) (known_of bytes) fault

-- a file with the ids that it tells, before what the later ones tell; a later one that is refused
-- is one place further on
abbrev pub other_before : List ℕ → Result (List NameRanges) Fault →
    Result (List OtherParts) TurnFault → Result (List OtherParts) TurnFault
other_before file (Ok known) (Ok others) = Ok (record { file = file; known = known } ∷ others)
other_before file (Ok known) (Err (Turn at fault)) = Err (Turn (suc at) fault)
other_before file (Ok known) (Err (Project fault)) = Err (Project fault)
other_before file (Err fault) later = Err (Turn 0 fault)

-- what files tell of other copies, or the first that is refused, by the number of those before it
abbrev pub others_of : List FileParts → Result (List OtherParts) TurnFault
others_of [] = Ok []
others_of (file ∷ later) = other_before file.name (known_of file.bytes) (others_of later)

-- A file is refused in its turn: the files before it, which are this many, tell their ids, and it
-- may be refused for this.
pub record RefusedAt (files : List FileParts) (at : ℕ) (fault : Fault) : Type 0 where
  pub before : List FileParts
  pub file : FileParts
  pub later : List FileParts
  pub stand : files ≡ before ++ file ∷ later
  pub place : length before ≡ at
  pub told : IsOk (others_of before)
  pub refused : RefusedFor (is_late_in file.bytes) (known_of file.bytes) fault

-- the first of the files, if there is one, is not refused
abbrev pub FirstTells : List FileParts → Type 0
FirstTells [] = Unit {0}
FirstTells (file ∷ later) = IsOk (known_of file.bytes)

-- What is answered of files: what they tell, or the first that is refused; or out of memory in no
-- turn, where what a file told is kept.
abbrev pub TellsAll : List FileParts → Result (List OtherParts) TurnFault → Type 0
TellsAll files (Ok others) = others_of files ≡ Ok others
TellsAll files (Err (Turn at fault)) = RefusedAt files at fault
TellsAll files (Err (Project fault)) = (fault ≡ Memory) × FirstTells files

-- ---- how a project stands

-- the lines of a replica and of its folder beside what files tell, or the file that is refused
abbrev pub status_beside : State → List ℕ → Result (List OtherParts) TurnFault →
    Result (List ℕ) TurnFault
status_beside s folder (Ok others) = Ok (status s.name s.held folder others)
status_beside s folder (Err fault) = Err fault

-- the lines of a project and of its folder beside files, or why the project is refused, or else the
-- first file that is
abbrev pub status_of : Result State LoadFault → List ℕ → List FileParts →
    Result (List ℕ) TurnFault
status_of (Ok s) folder files = status_beside s folder (others_of files)
status_of (Err fault) folder files = Err (Project (of_loading fault))

-- What is answered of a project that is read: its lines, or the first file that is refused; or out
-- of memory in no turn, which in the place of a first file's refusal is answered only where the
-- project has an operation without its text.
abbrev pub AnswersStatus : State → List ℕ → List FileParts → Result (List ℕ) TurnFault → Type 0
AnswersStatus s folder files (Ok text) = status_beside s folder (others_of files) ≡ Ok text
AnswersStatus s folder files (Err (Turn at fault)) = RefusedAt files at fault
AnswersStatus s folder files (Err (Project fault)) =
    (fault ≡ Memory) × (IsTrue (all_full s.held) → FirstTells files)

-- ---- how far it is

-- how far all books are by a versification
abbrev pub all_progress : Verses → List Operation → List ℕ
all_progress v held = flat_map (book_progress v held) (books_of held)

-- how far a book is, or that the project does not have it
abbrev pub progress_in : Verses → List Operation → List ℕ → Result (List ℕ) Fault
progress_in v held book =
    if has_book held book then Ok (book_progress v held book) else Err NoBook

-- how far one book is, or all of them
abbrev pub progress_of : Option (List ℕ) → List Operation → Verses → Result (List ℕ) Fault
progress_of None held v = Ok (all_progress v held)
progress_of (Some book) held v = progress_in v held book

-- the same by the versification of a file
abbrev pub progress_by : List Operation → Option (List ℕ) → List ℕ → Result (List ℕ) Fault
progress_by held book file = by_verses (versification_of file) (progress_of book held)

-- ---- what is in conflict

-- the keys of a book whose segments the report lists texts of
abbrev pub reported_in : List Operation → List ℕ → List KeyParts
reported_in held book =
    filter (λ key. nat_le 2 (length (distinct_texts held (segment book key)))) (keys_of held book)

-- The segments of a book that a project's status names as in conflict are those that the report
-- lists texts of.
abbrev pub ConflictsAreReported : Type 0
ConflictsAreReported =
    (held : List Operation) (book : List ℕ) → IsOpSet held →
    conflict_keys held book ≡ reported_in held book
