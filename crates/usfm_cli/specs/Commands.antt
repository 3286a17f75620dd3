-- What a command does to a replica, and what it answers (this project's own rule, over the steps of
-- a replica).
use Rattle.std.specs.Prelude.{◌≡◌, ℕ, List, [], ◌∷◌, ◌++◌, length, codes, Option, None, Some, option_map}
use Rattle.std.specs.Prelude.{Result, Ok, Err, Vec, Bool, true, false, not, ◌&&◌, IsTrue, if◌then◌else◌}
use Rattle.std.specs.Fmt.{decimal}
use Rattle.std.specs.List.{flat_map, find}
use Rattle.std.specs.Str.{is_utf8}
use Rattle.std.specs.Str.Lossy.{utf8_valid_len}
use Rattle.usfm_ref.specs.Segments.{segment}
use Rattle.usfm_ref.specs.declared.segment.Segment.{Segment}
use Rattle.op_core.specs.Ids.{Id, same_id}
use Rattle.op_core.specs.Ops.{Operation, own_text}
use Rattle.op_core.specs.Shown.{shown}
use Rattle.op_core.specs.Export.{has_book, export}
use Rattle.op_core.specs.Thinned.{all_full}
use Rattle.bundle_codec.specs.declared.fault.BundleFault.{BundleFault}
use Rattle.bundle_codec.specs.declared.fault.WholeFault.{WholeFault}
use Rattle.bundle_codec.specs.Reading.{fields_at}
use Rattle.bundle_codec.specs.Spelling.{bundle}
use Rattle.bundle_codec.specs.Joining.{whole_at}
use Rattle.replica_state.specs.States.{State}
use Rattle.replica_state.specs.Steps as steps
use Rattle.replica_state.specs.Since.{SinceStep, imported_since}
use Rattle.replica_state.specs.declared.fault.SinceFault.{SinceFault}
use Rattle.replica_state.specs.Steps.{Step, Reply, Received, Edited, Imported, Thinned, step}
use Rattle.bundle_codec.specs.Summaries.{NameRanges, summary, summary_of, outside}
use Rattle.bundle_codec.specs.SummaryReading.{read_summary}
use Rattle.conflict_report.specs.Reports.{report}
use Rattle.command_faults.specs.Faults.{of_receiving, of_edit, of_import, of_since, of_whole}
use Rattle.usfm_cli.specs.SheetReports.{checked, searched, listed, is_after_sheet}
use Rattle.usfm_cli.specs.declared.command.Command.{Command}
use Rattle.usfm_cli.specs.declared.command.Command.TheVariants.{Import, ImportSince}
use Rattle.usfm_cli.specs.declared.command.Command.TheVariants.{Edit, EditOver, EditWith, Receive}
use Rattle.usfm_cli.specs.declared.command.Command.TheVariants.{Thin, Shown, Send, Export, Summary}
use Rattle.usfm_cli.specs.declared.command.Command.TheVariants.{Delta, Report, Check, Find, Words}
use Rattle.command_faults.specs.declared.fault.Fault.{Fault}
use Rattle.command_faults.specs.declared.fault.Fault.TheVariants.{Memory, NotText, NoBook, NotShown}
use Rattle.command_faults.specs.declared.fault.Fault.TheVariants.{BadSummary, Clash, NumbersUsedUp}

-- the replica after a command, and what the command writes
pub record Done : Type 0 where
  pub after : State
  pub output : List ℕ

-- a word, a space and what follows, as a line
abbrev pub line_of : List ℕ → List ℕ → List ℕ
line_of word rest = word ++ 32 ∷ rest ++ 10 ∷ []

-- an id: its number, a space and its name
abbrev pub id_words : Id → List ℕ
id_words id = decimal id.number ++ 32 ∷ id.name

-- a shown operation: a line with its id and the length of its text, the text, and a line feed
abbrev pub shown_line : Operation → List ℕ
shown_line o = line_of (codes "op") (id_words o.id ++ 32 ∷ decimal (length (own_text o)))
    ++ own_text o ++ 10 ∷ []

-- what a command writes of a step: how many operations are new, the id that an edit made, how many
-- edits an import made, how many texts were left out; or the step's refusal
abbrev pub reply_line : Reply → Result (List ℕ) Fault
reply_line (Received (Ok count)) = Ok (line_of (codes "new") (decimal count))
reply_line (Received (Err fault)) = Err (of_receiving fault)
reply_line (Edited (Ok id)) = Ok (line_of (codes "made") (id_words id))
reply_line (Edited (Err fault)) = Err (of_edit fault)
reply_line (Imported (Ok count)) = Ok (line_of (codes "added") (decimal count))
reply_line (Imported (Err fault)) = Err (of_import fault)
reply_line (Thinned count) = Ok (line_of (codes "thinned") (decimal count))

-- what a command writes of an import since a base: how many edits it made; or the refusal
abbrev pub told_since : Result ℕ SinceFault → Result (List ℕ) Fault
told_since (Ok count) = Ok (line_of (codes "added") (decimal count))
told_since (Err fault) = Err (of_since fault)

-- the replica after a command with what the command writes, or the refusal
abbrev pub done_if : State → Result (List ℕ) Fault → Result Done Fault
done_if after (Ok output) = Ok (record { after = after; output = output })
done_if after (Err fault) = Err fault

-- what a step does, or why it is refused
abbrev pub done : Step → Result Done Fault
done taken = done_if taken.after (reply_line taken.reply)

-- what is done with bytes that are to be a text, which are refused where they are not UTF-8
abbrev pub with_text : List ℕ → Result Done Fault → Result Done Fault
with_text bytes next = if is_utf8 bytes then next else Err (NotText (utf8_valid_len bytes))

-- what is done with the set of a bundle, or the bundle's fault
abbrev pub with_bundle : State → Result (List Operation) WholeFault → Result Done Fault
with_bundle s (Ok ops) = done (step s (steps.Receive ops))
with_bundle s (Err fault) = Err (of_whole fault)

-- the step of an import, unless the file is not UTF-8
abbrev pub import_done : State → List ℕ → Result Done Fault
import_done s file = with_text file (done (step s (steps.Import file)))

-- what an import since a base does, or why it is refused
abbrev pub done_since : SinceStep → Result Done Fault
done_since taken = done_if taken.after (told_since taken.answer)

-- what is imported since the set of a bundle, or the bundle's fault
abbrev pub with_base : State → List ℕ → Result (List Operation) WholeFault → Result Done Fault
with_base s file (Ok base) = done_since (imported_since s base file)
with_base s file (Err fault) = Err (of_whole fault)

-- what an import since a base does, unless the file is not UTF-8
abbrev pub since_done : State → List ℕ → Result (List Operation) WholeFault → Result Done Fault
since_done s file base = with_text file (with_base s file base)

-- the step of an edit, unless its text is not UTF-8
abbrev pub edit_done : State → Segment → List ℕ → Result Done Fault
edit_done s g text = with_text text (done (step s (steps.Edit g text)))

-- the step of an edit over given ids, unless its text is not UTF-8
abbrev pub edit_over_done : State → Segment → List ℕ → List Id → Result Done Fault
edit_over_done s g text ids = with_text text (done (step s (steps.EditOver g text ids)))

-- the text of the operation of an id, if the segment shows it
abbrev pub text_shown : List Operation → Segment → Id → Option (List ℕ)
text_shown held g of = option_map (λ o. own_text o) (find (λ o. same_id o.id of) (shown held g))

-- the step of an edit over given ids by the text of an operation, if there is that
abbrev pub edit_by_text : State → Segment → Id → List Id → Option (List ℕ) → Result Done Fault
edit_by_text s g of ids None = Err (NotShown of)
edit_by_text s g of ids (Some text) = done (step s (steps.EditOver g text ids))

-- the step of an edit over given ids by the text of an operation that the segment shows
abbrev pub edit_with_done : State → Segment → Id → List Id → Result Done Fault
edit_with_done s g of ids = edit_by_text s g of ids (text_shown s.held g of)

-- the step of a thinning
abbrev pub thin_done : State → Result Done Fault
thin_done s = done (step s steps.Thin)

-- what a segment shows, operation by operation: a line, the text and a line feed for each
abbrev pub shown_text : List Operation → Segment → List ℕ
shown_text held g = flat_map shown_line (shown held g)

-- the text of a book, if it has an operation
abbrev pub export_text : List Operation → List ℕ → Result (List ℕ) Fault
export_text held book = if has_book held book then Ok (export held book) else Err NoBook

-- the bundle of what lies outside a summary, or that there is no summary
abbrev pub delta_for : List Operation → Option (List NameRanges) → Result (List ℕ) Fault
delta_for held (Some known) = Ok (bundle (outside known held))
delta_for held None = Err BadSummary

-- The replica after a command and what the command writes, or why it is refused. From `Shown` on
-- commands leave the replica as it is.
abbrev pub outcome : State → Command → Result Done Fault
outcome s (Import file) = import_done s file.now
outcome s (ImportSince file base) = since_done s file.now (whole_at base.now)
outcome s (Edit book key text) = edit_done s (segment book key) text.now
outcome s (EditOver book key text ids) = edit_over_done s (segment book key) text.now ids.now
outcome s (EditWith book key of ids) = edit_with_done s (segment book key) of ids.now
outcome s (Receive bytes) = with_bundle s (whole_at bytes.now)
outcome s Thin = thin_done s
outcome s (Shown book key) = done_if s (Ok (shown_text s.held (segment book key)))
outcome s Send = done_if s (Ok (bundle s.held))
outcome s (Export book) = done_if s (export_text s.held book)
outcome s Summary = done_if s (Ok (summary (summary_of s.held)))
outcome s (Delta bytes) = done_if s (delta_for s.held (read_summary bytes.now))
outcome s Report = done_if s (Ok (report s.held))
outcome s (Check book sheet) = done_if s (checked s.held book sheet.now)
outcome s (Find book sheet needle) = done_if s (searched s.held book sheet.now needle.now)
outcome s (Words book sheet) = done_if s (listed s.held book sheet.now)

-- whether a command only reports, and changes no replica
abbrev pub only_tells : Command → Bool
only_tells (Import file) = false
only_tells (ImportSince file base) = false
only_tells (Edit book key text) = false
only_tells (EditOver book key text ids) = false
only_tells (EditWith book key of ids) = false
only_tells (Receive bytes) = false
only_tells Thin = false
only_tells (Shown book key) = true
only_tells Send = true
only_tells (Export book) = true
only_tells Summary = true
only_tells (Delta summary) = true
only_tells Report = true
only_tells (Check book sheet) = true
only_tells (Find book sheet needle) = true
only_tells (Words book sheet) = true

-- ---- refusals, and out of memory

-- none of the faults
abbrev pub no_fault : Fault → Bool
no_fault fault = false

-- each of the faults
abbrev pub any_fault : Fault → Bool
any_fault fault = true

-- whether an operation is thinned, of those that are right each by itself
abbrev pub has_thinned : Result ((Bool × List Operation) × List ℕ) BundleFault → Bool
has_thinned (Ok fields) = not (all_full fields.0.1)
has_thinned (Err fault) = false

-- the fault is a clash, or it is found once each field of the bytes was right and an operation is
-- thinned
abbrev pub is_late_in : List ℕ → Fault → Bool
is_late_in bytes (Clash id) = true
is_late_in bytes fault = has_thinned (fields_at bytes)

-- the same of the bytes of a base, or that no number is left; but that the file is not UTF-8 is
-- found before
abbrev pub is_late_since : List ℕ → Fault → Bool
is_late_since base (NotText valid) = false
is_late_since base NumbersUsedUp = true
is_late_since base fault = is_late_in base fault

-- the fault is that no number is left
abbrev pub is_numbers_used_up : Fault → Bool
is_numbers_used_up NumbersUsedUp = true
is_numbers_used_up fault = false

-- The refusals of a command that are found only with memory: a clash, since what a bundle brings is
-- copied before all of it was looked at; what is wrong with a bundle that has a thinned operation,
-- once each field was right; that an import has no number left, since its edits are counted from
-- its pieces; what an edit by the text of an operation is refused for, since that text is looked up
-- first; and what comes after a sheet was read, or after two records of it.
abbrev pub is_late : Command → Fault → Bool
is_late (Import file) = is_numbers_used_up
is_late (ImportSince file base) = is_late_since base.now
is_late (Edit book key text) = no_fault
is_late (EditOver book key text ids) = no_fault
is_late (EditWith book key of ids) = any_fault
is_late (Receive bytes) = is_late_in bytes.now
is_late Thin = no_fault
is_late (Shown book key) = no_fault
is_late Send = no_fault
is_late (Export book) = no_fault
is_late Summary = no_fault
is_late (Delta summary) = no_fault
is_late Report = no_fault
is_late (Check book sheet) = is_after_sheet sheet.now
is_late (Find book sheet needle) = is_after_sheet sheet.now
is_late (Words book sheet) = is_after_sheet sheet.now

-- out of memory may be answered where nothing is refused, or where what is refused is found so late
abbrev pub MayWantMemory : {T : Type 0} → (Fault → Bool) → Result T Fault → Type 0
MayWantMemory late (Ok x) = Unit {0}
MayWantMemory late (Err fault) = IsTrue (late fault)

-- What is answered of what a command that only reports is to write: it, or the refusal; or out of
-- memory, where that may be answered.
abbrev pub Gives : {A : Type 0} → (Fault → Bool) → Result (List ℕ) Fault →
    Result (Vec ℕ A) Fault → Type 0
Gives late wanted (Ok output) = wanted ≡ Ok output.items
Gives late wanted (Err Memory) = MayWantMemory late wanted
Gives late wanted (Err fault) = wanted ≡ Err fault

-- What is answered of what is wanted, where the replica is then so: what is written, or the
-- refusal; or out of memory, where that may be answered.
abbrev pub Answers : {A : Type 0} → (Fault → Bool) → Result Done Fault → State →
    Result (Vec ℕ A) Fault → Type 0
Answers late wanted after (Ok output) =
    wanted ≡ Ok (record { after = after; output = output.items })
Answers late wanted after (Err Memory) = MayWantMemory late wanted
Answers late wanted after (Err fault) = wanted ≡ Err fault
