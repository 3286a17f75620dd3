-- After every schedule of commands the files mirror the world of its events.
use Rattle.std.proofs.Common.{◌≡◌, ◌<◌, ◌^◌, ℕ, Bool, true, false, cond, List, [], ◌∷◌, ◌++◌, append_assoc, length}
use Rattle.std.proofs.Common.{Option, None, Some, Result, Ok, Err, IsTrue, refl, sym, ap, subst, ◌∙◌}
use Rattle.std.specs.Prelude.{slice_get}
use Rattle.std.specs.List.{AllByRecursion}
use Rattle.std.specs.Str.{is_utf8}
use Rattle.std.proofs.lemmas.Str.{IsUtf8-from_is_utf8}
use Rattle.usfm_ref.specs.Segments.{segment}
use Rattle.usfm_ref.specs.declared.segment.Segment.{Segment}
use Rattle.verse_cut.specs.declared.fault.BookFault.{BookFault}
use Rattle.verse_cut.specs.Reading.{book_in}
use Rattle.op_core.specs.Names.{is_name}
use Rattle.op_core.specs.Ids.{Id}
use Rattle.op_core.specs.Ops.{Operation, is_segment}
use Rattle.op_core.proofs.Sets.Union.{IsOpSet-join}
use Rattle.bundle_codec.specs.Summaries.{NameRanges}
use Rattle.bundle_codec.specs.SummaryReading.{read_summary}
use Rattle.replica_state.specs.declared.fault.SinceFault.{SinceFault}
use Rattle.replica_state.specs.States.{State}
use Rattle.replica_state.specs.Steps.{with_ops}
use Rattle.replica_state.specs.Since.{imported_since}
use Rattle.replica_state.specs.World.{Event, Imports, Edits, EditsOver, IsWithin, world, replica}
use Rattle.replica_state.specs.World.Calls.{all_happen}
use Rattle.replica_state.specs.World.Exchanges as exchanges
use Rattle.replica_state.proofs.World.Sets.{since_within}
use Rattle.conflict_report.specs.Reports.{report}
use Rattle.usfm_cli.specs.Commands.{text_shown, shown_text, export_text, outcome}
use Rattle.usfm_cli.specs.SheetReports.{checked, searched, listed}
use Rattle.usfm_cli.specs.Projects.{Written, written}
use Rattle.usfm_cli.specs.Schedules.{Files, FileCommand, files, with_written, IsGiven, AreDone, IsFileOf}
use Rattle.usfm_cli.specs.Schedules.Relays.{IsBefore}
use Rattle.usfm_cli.specs.declared.command.Command.{Command}
use Rattle.usfm_cli.specs.declared.command.Command.TheVariants as command
use Rattle.command_faults.specs.declared.fault.Fault.{Fault}
use Rattle.usfm_cli.proofs.Schedules.Places.{place_in}
use Rattle.usfm_cli.proofs.Schedules.Events.{copying, receiving, answering, since_if, since_at, importing, events_of, events}
use Rattle.usfm_cli.proofs.Schedules.Events.{onto_happens, onto_within, onto_grows}
use Rattle.usfm_cli.proofs.Schedules.Mirrors.{Mirrors, sets, loads, does, only_told, imports, edits, edits_over, edits_with}
use Rattle.usfm_cli.proofs.Schedules.Mirrors.{thins, sends, answers, sums_up, receives}
use Rattle.usfm_cli.proofs.Schedules.Since.{imports_since}
use Rattle.usfm_cli.proofs.Schedules.Copied.{shown_is_text}

module _ (w : Files) (past : List Event) (within : AllByRecursion IsWithin past) (m : Mirrors w (world past))
    (name : List ℕ) (named : IsTrue (is_name name)) where
  -- ---- the events of a command are within their ranges

  abbrev Within : List Event → Type 0
  Within es = AllByRecursion IsWithin es

  import_within : (file : List ℕ) (b : Bool) → is_utf8 file ≡ b → Within (cond b (Imports name file ∷ []) [])
  import_within file true e = ((named, IsUtf8-from_is_utf8 file e), tt)
  import_within file false e = tt

  since_all_within : (file base : List ℕ) (b : Bool) → is_utf8 file ≡ b
      → Within (cond b (importing (world past) name file (place_in w.bundles base)) [])
  since_all_within file base false e = tt
  since_all_within file base true e = by (place_in w.bundles base)
    where
      s : State
      s = replica (world past) name

      of_set : (k : ℕ) (ops : List Operation) → slice_get (world past).bundles k ≡ Some ops → (r : Result ℕ SinceFault)
          → (b : Result (List ℕ) BookFault) → book_in file ≡ b → Within (since_if s k ops file r b)
      of_set k ops made (Err fault) b f = tt
      of_set k ops made (Ok count) (Err fault) f = tt
      of_set k ops made (Ok count) (Ok book) f =
          let all = sets w past within m in (
            tt,
            since_within name book file named f (IsUtf8-from_is_utf8 file e) (with_ops s ops).held ops
                (IsOpSet-join s.held ops (all.held name) (all.bundles k ops made)).each,
          )

      at : (k : ℕ) (r : Option (List Operation)) → slice_get (world past).bundles k ≡ r → Within (since_at s k file r)
      at k None f = tt
      at k (Some ops) f = of_set k ops f (imported_since s ops file).answer (book_in file) refl

      by : (r : Option ℕ) → Within (importing (world past) name file r)
      by None = tt
      by (Some k) = at k (slice_get (world past).bundles k) refl

  -- the text of a shown operation is one, since the operation is held
  copy_within : (g : Segment) → IsTrue (is_segment g) → (of : Id) (ids : List Id)
      → Within (copying name g ids (text_shown ((world past).held name) g of))
  copy_within g is of ids = by (text_shown ((world past).held name) g of) refl
    where
      by : (r : Option (List ℕ)) → text_shown ((world past).held name) g of ≡ r → Within (copying name g ids r)
      by None e = tt
      by (Some text) e =
          let all = sets w past within m in (
            record {
              name = named;
              segment = is;
              text = shown_is_text ((world past).held name) (all.held name).each g of text e;
            },
            tt,
          )

  receive_within : (r : Option ℕ) → Within (receiving name r)
  receive_within None = tt
  receive_within (Some k) = (tt, tt)

  answer_within : (held : List Operation) (r : Option (List NameRanges)) → Within (answering name held r)
  answer_within held None = tt
  answer_within held (Some known) = (tt, tt)

  all_within : (c : Command) → IsGiven w c → Within (events_of w (world past) name c)
  all_within (command.Import file) g = import_within file.now (is_utf8 file.now) refl
  all_within (command.ImportSince file base) g = since_all_within file.now base.now (is_utf8 file.now) refl
  all_within (command.Edit book key text) g = by (is_utf8 text.now) refl
    where
      by : (b : Bool) → is_utf8 text.now ≡ b → Within (cond b (Edits name (segment book key) text.now ∷ []) [])
      by true e = (record { name = named; segment = g; text = IsUtf8-from_is_utf8 text.now e }, tt)
      by false e = tt
  all_within (command.EditOver book key text ids) g = by (is_utf8 text.now) refl
    where
      by : (b : Bool) → is_utf8 text.now ≡ b → Within (cond b (EditsOver name (segment book key) text.now ids.now ∷ []) [])
      by true e = (record { name = named; segment = g; text = IsUtf8-from_is_utf8 text.now e }, tt)
      by false e = tt
  all_within (command.EditWith book key of ids) g = copy_within (segment book key) g of ids.now
  all_within (command.Receive bytes) g = receive_within (place_in w.bundles bytes.now)
  all_within command.Thin g = (tt, tt)
  all_within (command.Shown book key) g = tt
  all_within command.Send g = (tt, tt)
  all_within (command.Export book) g = tt
  all_within command.Summary g = (tt, tt)
  all_within (command.Delta summary) g = answer_within ((world past).held name) (read_summary summary.now)
  all_within command.Report g = tt
  all_within (command.Check book sheet) g = tt
  all_within (command.Find book sheet needle) g = tt
  all_within (command.Words book sheet) g = tt

  -- ---- the files after a command mirror the world after its events

  module _ (short : length (w.file name) < 2 ^ 64) where
    goes : (c : Command) → IsGiven w c
        → Mirrors (with_written w (record { name = name; command = c }) (written (outcome (replica (world past) name) c)))
        (all_happen (world past) (events_of w (world past) name c))
    goes (command.Import file) g = imports w past within m name named short file
    goes (command.ImportSince file base) g = imports_since w past within m name named short file base g
    goes (command.Edit book key text) g = edits w past within m name named short book key text
    goes (command.EditOver book key text ids) g = edits_over w past within m name named short book key text ids
    goes (command.EditWith book key of ids) g = edits_with w past within m name named short book key of ids
    goes (command.Receive bytes) g = receives w past within m name named short bytes g
    goes command.Thin g = thins w past within m name named short
    goes (command.Shown book key) g = only_told w past within m name named short (command.Shown book key)
        (Ok (shown_text ((world past).held name) (segment book key))) (λ output xs. (refl, refl))
    goes command.Send g = sends w past within m name named short
    goes (command.Export book) g = only_told w past within m name named short (command.Export book)
        (export_text ((world past).held name) book) (λ output xs. (refl, refl))
    goes command.Summary g = sums_up w past within m name named short
    goes (command.Delta summary) g = answers w past within m name named short summary g
    goes command.Report g = only_told w past within m name named short command.Report
        (Ok (report ((world past).held name))) (λ output xs. (refl, refl))
    goes (command.Check book sheet) g = only_told w past within m name named short (command.Check book sheet)
        (checked ((world past).held name) book sheet.now) (λ output xs. (refl, refl))
    goes (command.Find book sheet needle) g = only_told w past within m name named short (command.Find book sheet needle)
        (searched ((world past).held name) book sheet.now needle.now) (λ output xs. (refl, refl))
    goes (command.Words book sheet) g = only_told w past within m name named short (command.Words book sheet)
        (listed ((world past).held name) book sheet.now) (λ output xs. (refl, refl))

-- ---- every schedule

pub record Mirrored (commands : List FileCommand) : Type 0 where
  pub within : AllByRecursion IsWithin (events commands)
  pub mirrors : Mirrors (files commands) (world (events commands))

pub mirrored : (commands : List FileCommand) → AreDone commands → Mirrored commands
mirrored [] d = record {
  within = tt;
  mirrors = record { file = λ name. refl; bundles = refl; summaries = refl; told = λ k r e. cc e };
}
mirrored (c ∷ past) d =
    let rest = mirrored past d.1 in
    let es = events_of (files past) (world (events past)) c.name c.command in
    let g = d.0 in
    record {
      within = onto_within es (events past)
          (all_within (files past) (events past) rest.within rest.mirrors c.name g.named c.command g.given) rest.within;
      mirrors = subst (Mirrors (files (c ∷ past))) (sym (onto_happens es (events past)))
          (subst (λ (r : Result Written Fault). Mirrors (with_written (files past) c r) (all_happen (world (events past)) es))
          (sym (does (files past) (events past) rest.within rest.mirrors c.name g.named g.short c.command))
          (goes (files past) (events past) rest.within rest.mirrors c.name g.named g.short c.command g.given));
    }

-- a file that is read is that of the replica
pub is_replica : (commands : List FileCommand) (name : List ℕ) (s : State) → AreDone commands → IsFileOf (files commands) name s
    → s ≡ replica (world (events commands)) name
is_replica commands name s d f =
    let r = mirrored commands d in
    cc (sym f.reads ∙ loads (files commands) (events commands) r.within r.mirrors name f.named f.short)

-- ---- moments

pub done_before : (later past : List FileCommand) → AreDone (later ++ past) → AreDone past
done_before [] past d = d
done_before (c ∷ later) past d = done_before later past d.1

pub done_at : (past commands : List FileCommand) → IsBefore past commands → AreDone commands → AreDone past
done_at past commands b d = done_before b.0 past (subst AreDone b.1 d)

grows : (later past : List FileCommand) → exchanges.IsBefore (events past) (events (later ++ past))
grows [] past = ([], refl)
grows (c ∷ later) past =
    let all = later ++ past in
    let rest = grows later past in
    let r = onto_grows (events_of (files all) (world (events all)) c.name c.command) (events all) in
    (r.0 ++ rest.0, r.1 ∙ ap (λ (es : List Event). r.0 ++ es) rest.1 ∙ sym (append_assoc r.0 rest.0 (events past)))

pub before : (past commands : List FileCommand) → IsBefore past commands → exchanges.IsBefore (events past) (events commands)
before past commands b =
    subst (λ (cs : List FileCommand). exchanges.IsBefore (events past) (events cs)) (sym b.1) (grows b.0 past)

pub before_all : (a b c : List FileCommand) → IsBefore a b → IsBefore b c → IsBefore a c
before_all a b c f g = (
  g.0 ++ f.0,
  g.1 ∙ ap (λ (cs : List FileCommand). g.0 ++ cs) f.1 ∙ sym (append_assoc g.0 f.0 a),
)
