-- A schedule of commands on files as events of a world.
use Rattle.std.proofs.Common.{◌≡◌, ℕ, Bool, true, cond, List, [], ◌∷◌, ◌++◌, append_assoc}
use Rattle.std.proofs.Common.{Option, None, Some, Result, Ok, Err, refl, sym, ◌∙◌}
use Rattle.std.specs.Prelude.{slice_get}
use Rattle.std.specs.List.{AllByRecursion, list_all}
use Rattle.std.specs.Str.{is_utf8}
use Rattle.std.proofs.lemmas.Bool.{and_parts, and_from}
use Rattle.usfm_ref.specs.Segments.{segment}
use Rattle.usfm_ref.specs.declared.segment.Segment.{Segment}
use Rattle.verse_cut.specs.declared.fault.BookFault.{BookFault}
use Rattle.verse_cut.specs.Pieces.{pieces_of}
use Rattle.verse_cut.specs.Reading.{book_in}
use Rattle.op_core.specs.Ids.{Id}
use Rattle.op_core.specs.Ops.{Operation}
use Rattle.op_core.specs.Lists.{is_held}
use Rattle.bundle_codec.specs.Summaries.{NameRanges, outside}
use Rattle.bundle_codec.specs.SummaryReading.{read_summary}
use Rattle.replica_state.specs.declared.fault.SinceFault.{SinceFault}
use Rattle.replica_state.specs.States.{State}
use Rattle.replica_state.specs.Since.{imported_since}
use Rattle.replica_state.specs.World.{World, Event, Edits, EditsOver, Imports, Thins, Summarizes, Bundles, Receives, IsWithin, world, replica}
use Rattle.replica_state.specs.World.Calls.{since_events, all_happen}
use Rattle.usfm_cli.specs.Commands.{text_shown}
use Rattle.usfm_cli.specs.Schedules.{Files, FileCommand, files}
use Rattle.usfm_cli.specs.declared.command.Command.{Command}
use Rattle.usfm_cli.specs.declared.command.Command.TheVariants.{Import, ImportSince}
use Rattle.usfm_cli.specs.declared.command.Command.TheVariants.{Edit, EditOver, EditWith, Receive}
use Rattle.usfm_cli.specs.declared.command.Command.TheVariants.{Thin, Send, Summary, Delta}
use Rattle.usfm_cli.proofs.Schedules.Places.{place_in}

-- ---- the events of a command, the first of which comes first; none where it is refused, or only reports

-- an edit over given ids by the text of a shown operation, if the segment shows it
abbrev pub copying : List ℕ → Segment → List Id → Option (List ℕ) → List Event
copying name g ids None = []
copying name g ids (Some text) = EditsOver name g text ids ∷ []

abbrev pub receiving : List ℕ → Option ℕ → List Event
receiving name None = []
receiving name (Some k) = Receives name k ∷ []

abbrev pub answering : List ℕ → List Operation → Option (List NameRanges) → List Event
answering name held None = []
answering name held (Some known) = Bundles name (is_held (outside known held)) ∷ []

abbrev pub since_if : State → ℕ → List Operation → List ℕ → Result ℕ SinceFault → Result (List ℕ) BookFault → List Event
since_if s k base file (Err fault) begins = []
since_if s k base file (Ok count) (Err fault) = []
since_if s k base file (Ok count) (Ok book) = since_events s k base book (pieces_of file)

abbrev pub since_at : State → ℕ → List ℕ → Option (List Operation) → List Event
since_at s k file None = []
since_at s k file (Some base) = since_if s k base file (imported_since s base file).answer (book_in file)

abbrev pub importing : World → List ℕ → List ℕ → Option ℕ → List Event
importing v name file None = []
importing v name file (Some k) = since_at (replica v name) k file (slice_get v.bundles k)

abbrev pub events_of : Files → World → List ℕ → Command → List Event
events_of w v name (Import file) = cond (is_utf8 file.now) (Imports name file.now ∷ []) []
events_of w v name (ImportSince file base) =
    cond (is_utf8 file.now) (importing v name file.now (place_in w.bundles base.now)) []
events_of w v name (Edit book key text) = cond (is_utf8 text.now) (Edits name (segment book key) text.now ∷ []) []
events_of w v name (EditOver book key text ids) =
    cond (is_utf8 text.now) (EditsOver name (segment book key) text.now ids.now ∷ []) []
events_of w v name (EditWith book key of ids) =
    copying name (segment book key) ids.now (text_shown (v.held name) (segment book key) of)
events_of w v name (Receive bytes) = receiving name (place_in w.bundles bytes.now)
events_of w v name Thin = Thins name ∷ []
events_of w v name Send = Bundles name (is_held (v.held name)) ∷ []
events_of w v name Summary = Summarizes name ∷ []
events_of w v name (Delta summary) = answering name (v.held name) (read_summary summary.now)
events_of w v name command = []

-- ---- those of a schedule, the last of which comes first

-- later events, the first of which comes first, after others, the last of which does
abbrev pub onto : List Event → List Event → List Event
onto [] past = past
onto (e ∷ later) past = onto later (e ∷ past)

abbrev pub events : List FileCommand → List Event
events [] = []
events (c ∷ past) = onto (events_of (files past) (world (events past)) c.name c.command) (events past)

pub onto_happens : (later past : List Event) → world (onto later past) ≡ all_happen (world past) later
onto_happens [] past = refl
onto_happens (e ∷ later) past = onto_happens later (e ∷ past)

pub onto_within : (later past : List Event) → AllByRecursion IsWithin later → AllByRecursion IsWithin past
    → AllByRecursion IsWithin (onto later past)
onto_within [] past h k = k
onto_within (e ∷ later) past h k = onto_within later (e ∷ past) h.1 (h.0, k)

pub onto_all : (p : Event → Bool) (later past : List Event) → list_all p later ≡ true → list_all p past ≡ true
    → list_all p (onto later past) ≡ true
onto_all p [] past h k = k
onto_all p (e ∷ later) past h k =
    let parts = and_parts (p e) (list_all p later) h in
    onto_all p later (e ∷ past) parts.1 (and_from (p e) (list_all p past) parts.0 k)

pub onto_grows : (later past : List Event) → (more : List Event) × (onto later past ≡ more ++ past)
onto_grows [] past = ([], refl)
onto_grows (e ∷ later) past =
    let r = onto_grows later (e ∷ past) in (r.0 ++ (e ∷ []), r.1 ∙ sym (append_assoc r.0 (e ∷ []) past))

-- and those between are such as the later ones are
pub onto_grows_all : (p : Event → Bool) (later past : List Event) → list_all p later ≡ true
    → (more : List Event) × (onto later past ≡ more ++ past) × (list_all p more ≡ true)
onto_grows_all p [] past h = ([], refl, refl)
onto_grows_all p (e ∷ later) past h =
    let parts = and_parts (p e) (list_all p later) h in
    let r = onto_grows_all p later (e ∷ past) parts.1 in
    (r.0 ++ (e ∷ []), r.1 ∙ sym (append_assoc r.0 (e ∷ []) past), with_one r.0 e r.2 parts.0)
  where
    with_one : (xs : List Event) (e : Event) → list_all p xs ≡ true → p e ≡ true → list_all p (xs ++ (e ∷ [])) ≡ true
    with_one [] e h k = and_from (p e) true k refl
    with_one (x ∷ xs) e h k =
        let parts = and_parts (p x) (list_all p xs) h in
        and_from (p x) (list_all p (xs ++ (e ∷ []))) parts.0 (with_one xs e parts.1 k)
