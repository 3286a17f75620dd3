-- What was in a project, and what changed in it since some ids were known (this project's own
-- rule).
use Rattle.std.specs.Prelude.{◌≡◌, ℕ, nat_eq, Bool, false, List}
use Rattle.std.specs.Prelude.{Result, Ok, Err, if◌then◌else◌}
use Rattle.std.specs.List.{starts_with}
use Rattle.op_core.specs.Ops.{Operation}
use Rattle.bundle_codec.specs.Summaries.{NameRanges, covers, summary_of}
use Rattle.replica_state.specs.States.{State}
use Rattle.project_file.specs.declared.fault.LoadFault.{LoadFault}
use Rattle.project_file.specs.Projects.{magic, project_at}
use Rattle.segment_history.specs.ChangeLines.{changes_text}
use Rattle.segment_history.specs.Lines.{history_text}
use Rattle.segment_history.specs.Naming.{has_books, named_segments, changes_in}
use Rattle.segment_history.specs.declared.named.Named.{Named}
use Rattle.usfm_cli.specs.Copies.{known_of}
use Rattle.command_faults.specs.Faults.{of_loading}
use Rattle.usfm_cli.specs.Turns.{is_memory}
use Rattle.command_faults.specs.declared.fault.Fault.{Fault}
use Rattle.command_faults.specs.declared.fault.Fault.TheVariants.{NoBook}

-- ---- histories

-- what is told of a set where each book that is named has an operation, or else that one has none
abbrev pub of_books : {X : Type 0} → List Operation → List Named → Result X Fault → Result X Fault
of_books held names told = if has_books held names then told else Err NoBook

-- the histories of the named segments
abbrev pub history_of : List Operation → List Named → Result (List ℕ) Fault
history_of held names = of_books held names (Ok (history_text held (named_segments held names)))

-- ---- what is known

-- whether bytes begin as a project does
abbrev pub is_like_project : List ℕ → Bool
is_like_project bytes = starts_with nat_eq bytes magic

-- the ids of a project that was read, or why none was read
abbrev pub ids_of_project : Result State LoadFault → Result (List NameRanges) Fault
ids_of_project (Ok s) = Ok (summary_of s.held)
ids_of_project (Err fault) = Err (of_loading fault)

-- the ids that a file covers: a project, a summary or a bundle, by how it begins
abbrev pub covered_by : List ℕ → Result (List NameRanges) Fault
covered_by bytes =
    if is_like_project bytes then ids_of_project (project_at bytes) else known_of bytes

-- whether out of memory is answered
abbrev pub is_out_of_memory : {X : Type 0} → Result X Fault → Bool
is_out_of_memory (Ok x) = false
is_out_of_memory (Err fault) = is_memory fault

-- what is answered of a file: the ids that it covers, or its fault; or out of memory
abbrev pub Covers : List ℕ → Result (List NameRanges) Fault → Type 0
Covers bytes result = is_out_of_memory result ≡ false → covered_by bytes ≡ result

-- ---- what changed

-- what changed in the named segments since these ids were known, or why none are known
abbrev pub changes_since : List Operation → Result (List NameRanges) Fault → List Named → Bool
    → Result (List ℕ) Fault
changes_since held (Ok known) names texts =
    Ok (changes_text texts (changes_in held (covers known) names))
changes_since held (Err fault) names texts = Err fault

-- the same, where each book that is named has an operation
abbrev pub changes_of : List ℕ → List Named → Bool → List Operation → Result (List ℕ) Fault
changes_of since names texts held =
    of_books held names (changes_since held (covered_by since) names texts)

-- ---- what is answered

-- what is given of a project's set, or why no project was read
abbrev pub of_project : {X : Type 0} → Result State LoadFault → (List Operation → Result X Fault)
    → Result X Fault
of_project (Ok s) given = given s.held
of_project (Err fault) given = Err (of_loading fault)

-- What is answered of a project: that; or out of memory.
abbrev pub AnswersOf : {X : Type 0} → List ℕ → (List Operation → Result X Fault) → Result X Fault
    → Type 0
AnswersOf bytes given result =
    is_out_of_memory result ≡ false → of_project (project_at bytes) given ≡ result
