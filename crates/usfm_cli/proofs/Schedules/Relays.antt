-- Hearings and relays of files as those of a world, and files that agree in the end.
use Rattle.std.proofs.Common.{◌≡◌, ℕ, Bool, true, false, cond, List, [], ◌∷◌, ◌++◌, append_assoc}
use Rattle.std.proofs.Common.{Option, None, Some, Result, Ok, Err, IsTrue, refl, sym, ap, subst, ◌∙◌}
use Rattle.std.specs.Prelude.{slice_get}
use Rattle.std.specs.List.{list_all}
use Rattle.std.specs.Str.{is_utf8}
use Rattle.std.proofs.lemmas.Bool.{and_parts, and_from}
use Rattle.usfm_ref.specs.Books.{same_bytes}
use Rattle.usfm_ref.specs.Segments.{segment}
use Rattle.usfm_ref.specs.declared.segment.Segment.{Segment}
use Rattle.verse_cut.specs.declared.fault.BookFault.{BookFault}
use Rattle.verse_cut.specs.Reading.{book_in}
use Rattle.op_core.specs.Ids.{Id}
use Rattle.op_core.specs.Ops.{Operation, bare}
use Rattle.op_core.specs.Sets.{IsOpSet, get}
use Rattle.op_core.proofs.Sets.Clashes.{get_id}
use Rattle.op_core.specs.Lists.{awaited}
use Rattle.op_core.specs.Export.{export}
use Rattle.op_core.specs.Thinned.{is_legal, skeleton}
use Rattle.bundle_codec.specs.Spelling.{bundle}
use Rattle.bundle_codec.specs.Summaries.{NameRanges, summary_of, outside}
use Rattle.bundle_codec.specs.SummaryReading.{read_summary}
use Rattle.bundle_codec.proofs.Deltas.{outside_legal}
use Rattle.bundle_codec.proofs.Outside.{outside_set}
use Rattle.bundle_codec.proofs.Wholes.{whole_reads}
use Rattle.replica_state.specs.declared.fault.SinceFault.{SinceFault}
use Rattle.replica_state.specs.States.{State}
use Rattle.replica_state.specs.Changes.{ChangeParts}
use Rattle.replica_state.specs.Since.{imported_since}
use Rattle.replica_state.specs.World as world_of
use Rattle.replica_state.specs.World.{World, Event, Receives, world, replica}
use Rattle.replica_state.specs.World.Calls.{edits_of}
use Rattle.replica_state.specs.World.Schedules.{Holds, IsMade}
use Rattle.replica_state.specs.World.Exchanges as exchanges
use Rattle.replica_state.specs.World.Agreement as agreement
use Rattle.replica_state.proofs.World.Exchanges.{relay_tells, all_hold_all}
use Rattle.replica_state.proofs.World.Moments.{whole, the_twin, stands, of_bare}
use Rattle.replica_state.proofs.World.Runs.{was_made}
use Rattle.replica_state.proofs.World.Shows.{all_agree_in_the_end}
use Rattle.conflict_report.specs.Reports.{report}
use Rattle.conflict_report.proofs.Worlds.{all_report}
use Rattle.usfm_cli.specs.Commands.{text_shown}
use Rattle.usfm_cli.specs.Projects.{executed}
use Rattle.usfm_cli.specs.ExecLaws.{output_of}
use Rattle.usfm_cli.specs.Schedules.{Files, FileCommand, files, IsFrontOf, AreDone, IsFileOf}
use Rattle.usfm_cli.specs.Schedules.Relays.{IsBefore, Request, Whole, Lacking, asking, IsAsked, Hearing, Hears, heard, IsRelay}
use Rattle.usfm_cli.specs.Schedules.Relays.{edits_at, EndsInRelays, AgreeInBytes}
use Rattle.usfm_cli.specs.declared.command.Command.{Command}
use Rattle.usfm_cli.specs.declared.command.Command.TheVariants as command
use Rattle.usfm_cli.proofs.ReadTheSame.{exported, reported}
use Rattle.usfm_cli.proofs.ReadAlike.{texts_alike}
use Rattle.usfm_cli.proofs.SummariesRead.{delta_answers}
use Rattle.usfm_cli.proofs.Schedules.Places.{place_in, place_is}
use Rattle.usfm_cli.proofs.Schedules.Events.{copying, receiving, answering, since_if, since_at, importing, events_of}
use Rattle.usfm_cli.proofs.Schedules.Events.{onto, events, onto_all, onto_grows_all}
use Rattle.usfm_cli.proofs.Schedules.Every.{mirrored, is_replica, done_at, before, before_all}
use Rattle.usfm_cli.proofs.Schedules.Mirrors.{sets, state, loads, does, made_at, cut_at, short_front, is_proper}

-- ---- a hearing

abbrev request_of : Request → exchanges.Request
request_of Whole = exchanges.Whole
request_of (Lacking asked summary) = exchanges.Lacking (events asked)

-- a set that bytes are the bundle of
record IsSetOf (bytes : List ℕ) (ops : List Operation) : Type 0 where
  set : IsOpSet ops
  legal : IsTrue (is_legal ops)
  spelled : bundle ops ≡ bytes

module _ (teller : List ℕ) (h : Hearing) (d : AreDone (heard h)) (way : Hears teller h) where
  abbrev held : List Operation
  held = (world (events h.sent)).held teller

  sent_done : AreDone h.sent
  sent_done = done_at h.sent h.got way.later d.1

  -- the bytes are the bundle of what is asked for
  gives : (request : Request) → IsAsked h.hearer request h.sent
      → output_of (executed ((files h.sent).file teller) (asking request)) ≡ Ok h.bytes.now
      → IsSetOf h.bytes.now (exchanges.bundled h.hearer (request_of request) held)
  gives Whole asked gave =
      let r = mirrored h.sent sent_done in
      let all = sets (files h.sent) (events h.sent) r.within r.mirrors in
      let wrote : output_of (executed ((files h.sent).file teller) command.Send) ≡ Ok (bundle held) =
      ap output_of (does (files h.sent) (events h.sent) r.within r.mirrors teller way.named way.short command.Send) in
      record { set = all.held teller; legal = all.held_legal teller; spelled = cc (sym wrote ∙ gave) }
  gives (Lacking asked summary) a gave =
      let r = mirrored h.sent sent_done in
      let all = sets (files h.sent) (events h.sent) r.within r.mirrors in
      let q = mirrored asked (done_at asked h.sent a.before sent_done) in
      let own = replica (world (events asked)) h.hearer in
      let other = replica (world (events h.sent)) teller in
      let wrote : output_of (executed ((files h.sent).file teller) (command.Delta summary))
      ≡ Ok (bundle (outside (summary_of own.held) held)) =
      delta_answers ((files h.sent).file teller) ((files asked).file h.hearer) other own summary
      (loads (files h.sent) (events h.sent) r.within r.mirrors teller way.named way.short)
      (loads (files asked) (events asked) q.within q.mirrors h.hearer a.named a.short)
      (state (files asked) (events asked) q.within q.mirrors h.hearer a.named a.short) a.wrote a.fits in
      record {
        set = outside_set (summary_of own.held) held (all.held teller);
        legal = outside_legal held (summary_of own.held) (all.held teller) (all.held_legal teller);
        spelled = cc (sym wrote ∙ gave);
      }

  asked_before : (request : Request) → IsAsked h.hearer request h.sent → exchanges.IsAsked (request_of request) (events h.sent)
  asked_before Whole a = tt
  asked_before (Lacking asked summary) a = before asked h.sent a.before

  pub record Heard : Type 0 where
    pub place : ℕ
    pub is : events (heard h) ≡ Receives h.hearer place ∷ events h.got
    pub hears : exchanges.Hears teller
        (exchanges.hearing h.hearer (request_of h.request) (events h.sent) place (events h.got))

  pub hearing : Heard
  hearing = by (place_in (files h.got).bundles h.bytes.now) refl
    where
      wanted : List Operation
      wanted = exchanges.bundled h.hearer (request_of h.request) held

      b : IsSetOf h.bytes.now wanted
      b = gives h.request way.asked way.gives

      front : IsFrontOf (files h.got).bundles h.bytes.now
      front = d.0.given

      by : (r : Option ℕ) → place_in (files h.got).bundles h.bytes.now ≡ r → Heard
      by None e =
          let r = mirrored h.got d.1 in
          let cut = cut_at (files h.got) (events h.got) r.within r.mirrors h.bytes.now front
          (is_proper (files h.got) (events h.got) r.within r.mirrors h.bytes.now front e) in
          let whole = whole_reads h.bytes.now (record {
            ops = wanted;
            set = b.set;
            legal = b.legal;
            spelled = sym b.spelled;
            short = short_front (files h.got) (events h.got) r.within r.mirrors h.bytes.now front;
          }) in
          cc (sym cut ∙ whole)
      by (Some k) e =
          let r = mirrored h.got d.1 in
          let short = short_front (files h.got) (events h.got) r.within r.mirrors h.bytes.now front in
          let x = made_at (files h.got) (events h.got) r.within r.mirrors h.bytes.now k
          (place_is (files h.got).bundles h.bytes.now k e) short in
          let whole = whole_reads h.bytes.now (record {
            ops = wanted;
            set = b.set;
            legal = b.legal;
            spelled = sym b.spelled;
            short = short;
          }) in
          let same : wanted ≡ x.ops = cc (sym whole ∙ x.reads) in
          record {
            place = k;
            is = ap (λ (p : Option ℕ). onto (receiving h.hearer p) (events h.got)) e;
            hears = record {
              asked = asked_before h.request way.asked;
              later = before h.sent h.got way.later;
              ops = x.ops;
              is = x.made;
              has = λ o g. subst (λ (ops : List Operation). Holds ops o) same g;
            };
          }

-- ---- relays

relay_before : (a : List ℕ) (from : List FileCommand) (hearings : List Hearing) (b : List ℕ) (to : List FileCommand)
    → IsRelay a from hearings b to → IsBefore from to
relay_before a from [] b to way = way.1
relay_before a from (h ∷ hearings) b to way =
    let got : IsBefore h.got (heard h) = (record { name = h.hearer; command = command.Receive h.bytes } ∷ [], refl) in
    before_all from h.sent to way.0
    (before_all h.sent h.got to way.1.later
    (before_all h.got (heard h) to got (relay_before h.hearer (heard h) hearings b to way.2)))

pub relay : (a : List ℕ) (from : List FileCommand) (hearings : List Hearing) (b : List ℕ) (to : List FileCommand) → AreDone to
    → IsRelay a from hearings b to
    → (others : List exchanges.Hearing) × exchanges.IsRelay a (events from) others b (events to)
relay a from [] b to d way = ([], (way.0, before from to way.1))
relay a from (h ∷ hearings) b to d way =
    let done = done_at (heard h) to (relay_before h.hearer (heard h) hearings b to way.2) d in
    let x = hearing a h done way.1 in
    let rest = relay h.hearer (heard h) hearings b to d way.2 in (
      exchanges.hearing h.hearer (request_of h.request) (events h.sent) x.place (events h.got) ∷ rest.0,
      (
        before from h.sent way.0,
        x.hears,
        subst (λ (es : List Event). exchanges.IsRelay h.hearer es rest.0 b (events to)) x.is rest.1,
      ),
    )

pub relays_tell : (a b : List ℕ) (from to : List FileCommand) (hearings : List Hearing) (s t : State) (o : Operation) → AreDone to
    → IsRelay a from hearings b to → IsFileOf (files from) a s → IsFileOf (files to) b t → Holds s.held o → Holds t.held o
relays_tell a b from to hearings s t o d way f g held =
    let one = is_replica from a s (done_at from to (relay_before a from hearings b to way) d) f in
    let two = is_replica to b t d g in
    let r = relay a from hearings b to d way in
    subst (λ (u : State). Holds u.held o) (sym two)
    (relay_tells a b (events from) (events to) r.0 r.1 o (subst (λ (u : State). Holds u.held o) one held))

-- ---- who edits

abbrev Passes : (List ℕ → Bool) → List Event → Type 0
Passes is_there es = list_all (world_of.edits_at is_there) es ≡ true

edits_pass : (is_there : List ℕ → Bool) (name book : List ℕ) (changes : List ChangeParts) → is_there name ≡ true
    → Passes is_there (edits_of name book changes)
edits_pass is_there name book [] there = refl
edits_pass is_there name book (c ∷ changes) there = and_from (is_there name) _ there (edits_pass is_there name book changes there)

module _ (is_there : List ℕ → Bool) (w : Files) (v : World) (name : List ℕ) where
  one_passes : (e : Event) → world_of.edits_at is_there e ≡ true → (b : Bool) → Passes is_there (cond b (e ∷ []) [])
  one_passes e there true = and_from (world_of.edits_at is_there e) true there refl
  one_passes e there false = refl

  since_passes : (file : List ℕ) → is_there name ≡ true → (p : Option ℕ) → (b : Bool)
      → Passes is_there (cond b (importing v name file p) [])
  since_passes file there p false = refl
  since_passes file there None true = refl
  since_passes file there (Some k) true = at (slice_get v.bundles k)
    where
      of_answer : (ops : List Operation) (r : Result ℕ SinceFault) (b : Result (List ℕ) BookFault)
          → Passes is_there (since_if (replica v name) k ops file r b)
      of_answer ops (Err fault) b = refl
      of_answer ops (Ok count) (Err fault) = refl
      of_answer ops (Ok count) (Ok book) = edits_pass is_there name book _ there

      at : (o : Option (List Operation)) → Passes is_there (since_at (replica v name) k file o)
      at None = refl
      at (Some ops) = of_answer ops (imported_since (replica v name) ops file).answer (book_in file)

  copies_pass : (g : Segment) (ids : List Id) → is_there name ≡ true → (r : Option (List ℕ)) → Passes is_there (copying name g ids r)
  copies_pass g ids there None = refl
  copies_pass g ids there (Some text) = and_from (is_there name) true there refl

  receives_pass : (r : Option ℕ) → Passes is_there (receiving name r)
  receives_pass None = refl
  receives_pass (Some k) = refl

  answers_pass : (r : Option (List NameRanges)) → Passes is_there (answering name (v.held name) r)
  answers_pass None = refl
  answers_pass (Some known) = refl

  passes : (c : Command) → edits_at is_there (record { name = name; command = c }) ≡ true → Passes is_there (events_of w v name c)
  passes (command.Import file) h = one_passes (world_of.Imports name file.now) h (is_utf8 file.now)
  passes (command.ImportSince file base) h = since_passes file.now h (place_in w.bundles base.now) (is_utf8 file.now)
  passes (command.Edit book key text) h = one_passes (world_of.Edits name (segment book key) text.now) h (is_utf8 text.now)
  passes (command.EditOver book key text ids) h =
      one_passes (world_of.EditsOver name (segment book key) text.now ids.now) h (is_utf8 text.now)
  passes (command.EditWith book key of ids) h =
      copies_pass (segment book key) ids.now h (text_shown (v.held name) (segment book key) of)
  passes (command.Receive bytes) h = receives_pass (place_in w.bundles bytes.now)
  passes command.Thin h = refl
  passes (command.Shown book key) h = refl
  passes command.Send h = refl
  passes (command.Export book) h = refl
  passes command.Summary h = refl
  passes (command.Delta summary) h = answers_pass (read_summary summary.now)
  passes command.Report h = refl
  passes (command.Check book sheet) h = refl
  passes (command.Find book sheet needle) h = refl
  passes (command.Words book sheet) h = refl

all_pass : (is_there : List ℕ → Bool) (commands : List FileCommand) → list_all (edits_at is_there) commands ≡ true
    → Passes is_there (events commands)
all_pass is_there [] h = refl
all_pass is_there (c ∷ past) h =
    let parts = and_parts (edits_at is_there c) (list_all (edits_at is_there) past) h in
    onto_all (world_of.edits_at is_there) (events_of (files past) (world (events past)) c.name c.command) (events past)
    (passes is_there (files past) (world (events past)) c.name c.command parts.0) (all_pass is_there past parts.1)

all_append : (p : Event → Bool) (xs ys : List Event) → list_all p xs ≡ true → list_all p ys ≡ true → list_all p (xs ++ ys) ≡ true
all_append p [] ys h k = k
all_append p (x ∷ xs) ys h k =
    let parts = and_parts (p x) (list_all p xs) h in and_from (p x) (list_all p (xs ++ ys)) parts.0 (all_append p xs ys parts.1 k)

-- later commands are later events
grows_by : (is_there : List ℕ → Bool) (later past : List FileCommand) → list_all (edits_at is_there) later ≡ true
    → (more : List Event) × (events (later ++ past) ≡ more ++ events past) × Passes is_there more
grows_by is_there [] past h = ([], refl, refl)
grows_by is_there (c ∷ later) past h =
    let all = later ++ past in
    let parts = and_parts (edits_at is_there c) (list_all (edits_at is_there) later) h in
    let es = events_of (files all) (world (events all)) c.name c.command in
    let r = onto_grows_all (world_of.edits_at is_there) es (events all)
    (passes is_there (files all) (world (events all)) c.name c.command parts.0) in
    let rest = grows_by is_there later past parts.1 in (
      r.0 ++ rest.0,
      r.1 ∙ ap (λ (es : List Event). r.0 ++ es) rest.1 ∙ sym (append_assoc r.0 rest.0 (events past)),
      all_append (world_of.edits_at is_there) r.0 rest.0 r.2 rest.2,
    )

-- ---- in the end

module _ (is_there : List ℕ → Bool) (later past : List FileCommand) (d : AreDone (later ++ past))
    (ends : EndsInRelays is_there later past) where
  abbrev to : List FileCommand
  to = later ++ past

  grown : (more : List Event) × (events (later ++ past) ≡ more ++ events past) × Passes (λ name. false) more
  grown = grows_by (λ name. false) later past ends.exchanges

  told : (a b : List ℕ) → is_there a ≡ true → is_there b ≡ true → same_bytes a b ≡ false
      → (hearings : List exchanges.Hearing) × exchanges.IsRelay a (events past) hearings b (grown.0 ++ events past)
  told a b ha hb differ =
      let way = ends.tell a b ha hb differ in
      subst (λ (es : List Event). (hearings : List exchanges.Hearing) × exchanges.IsRelay a (events past) hearings b es) grown.1
      (relay a past way.0 b (later ++ past) d way.1)

  world_ends : agreement.EndsInRelays is_there grown.0 (events past)
  world_ends = record { edits_there = all_pass is_there past ends.edits_there; exchanges = grown.2; tell = told }

  held_is : (name : List ℕ) (s : State) → IsFileOf (files (later ++ past)) name s → s.held ≡ (world (grown.0 ++ events past)).held name
  held_is name s f =
      ap (λ (u : State). u.held) (is_replica (later ++ past) name s d f) ∙ ap (λ (es : List Event). (world es).held name) grown.1

  pub agree_in_bytes : (a b : List ℕ) (s t : State) → is_there a ≡ true → is_there b ≡ true → IsFileOf (files (later ++ past)) a s
      → IsFileOf (files (later ++ past)) b t
      → AgreeInBytes ((files (later ++ past)).file a) ((files (later ++ past)).file b) s
  agree_in_bytes a b s t ha hb f g =
      let all = all_agree_in_the_end is_there grown.0 (events past) world_ends a b ha hb in
      let reports = all_report is_there grown.0 (events past) world_ends a b ha hb in
      let one = held_is a s f in
      let two = held_is b t g in
      let own = (files (later ++ past)).file a in
      let other = (files (later ++ past)).file b in
      record {
        same = record {
          books = λ book.
              exported own s book f.reads
              ∙ texts_alike s.held t.held book (ap skeleton one ∙ all.same.skeletons ∙ sym (ap skeleton two))
              (ap (λ (ops : List Operation). export ops book) one ∙ all.same.answers.export book
              ∙ sym (ap (λ (ops : List Operation). export ops book) two))
              ∙ sym (exported other t book g.reads);
          report = reported own s f.reads ∙ ap Ok (ap report one ∙ reports.same ∙ sym (ap report two)) ∙ sym (reported other t g.reads);
        };
        awaits_none = ap awaited one ∙ all.awaits_none;
      }

  -- what was held at a moment was made by then, and so before the end
  made_by : (moment : List FileCommand) (maker : List ℕ) (o : Operation) → IsBefore moment (later ++ past)
      → Holds ((world (events moment)).held maker) o
      → (whole_op : Operation) × (bare whole_op ≡ bare o) × (whole_op.id ≡ o.id) × IsMade (grown.0 ++ events past) whole_op
  made_by moment maker o b h =
      let then = (whole (events moment)).held maker in
      let r = of_bare ((world (events moment)).held maker) then (stands (events moment) maker) o.id (bare o) h in
      let m = was_made the_twin (events moment) maker o.id r.op r.here in
      let way = before moment (later ++ past) b in
      let all : IsMade (events (later ++ past)) r.op = record {
        later = way.0 ++ m.later;
        event = m.event;
        past = m.past;
        here = way.1 ∙ ap (λ (es : List Event). way.0 ++ es) m.here ∙ sym (append_assoc way.0 m.later (m.event ∷ m.past));
        makes = m.makes;
      } in
      (r.op, r.same, get_id then o.id r.op r.here, subst (λ (es : List Event). IsMade es r.op) grown.1 all)

  pub all_hold : (moment : List FileCommand) (name maker : List ℕ) (s t : State) (o : Operation) → is_there name ≡ true
      → IsFileOf (files (later ++ past)) name s → IsBefore moment (later ++ past) → IsFileOf (files moment) maker t
      → Holds t.held o → Holds s.held o
  all_hold moment name maker s t o here f b g h =
      let is = is_replica moment maker t (done_at moment (later ++ past) b d) g in
      let m = made_by moment maker o b (subst (λ (u : State). Holds u.held o) is h) in
      let held = (world (grown.0 ++ events past)).held name in
      let all : Holds held m.0 = all_hold_all is_there grown.0 (events past) world_ends name here m.0 m.3 in
      let own : Holds held o = ap (get (skeleton held)) (sym m.2) ∙ all ∙ ap Some m.1 in
      subst (λ (ops : List Operation). Holds ops o) (sym (held_is name s f)) own
