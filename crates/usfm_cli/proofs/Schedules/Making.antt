-- Which command made an operation that a file holds, and what was in view then.
use Rattle.std.proofs.Common.{Bor, ◌≡◌, ◌⊎◌, inl, inr, ℕ, Bool, true, false, cond, List, [], ◌∷◌, ◌++◌, append_assoc, map}
use Rattle.std.proofs.Common.{Option, None, Some, option_map, Result, Ok, Err, refl, sym, ap, subst, ◌∙◌}
use Rattle.std.specs.List.{AllByRecursion}
use Rattle.std.specs.Str.{is_utf8}
use Rattle.std.proofs.lemmas.Bool.{and_parts}
use Rattle.usfm_ref.specs.Keys.{KeyParts}
use Rattle.usfm_ref.specs.Segments.{segment}
use Rattle.usfm_ref.specs.declared.segment.Segment.{Segment}
use Rattle.verse_cut.specs.declared.fault.BookFault.{BookFault}
use Rattle.verse_cut.specs.Pieces.{PieceParts, pieces_of}
use Rattle.verse_cut.specs.Reading.{book_in}
use Rattle.op_core.specs.Ids.{Id}
use Rattle.op_core.specs.Ops.{Operation, bare, names}
use Rattle.op_core.specs.Sets.{get}
use Rattle.op_core.specs.Lists.{is_held, shown_ids}
use Rattle.op_core.specs.NextIds.{is_among, given_ids}
use Rattle.op_core.proofs.IdOrders.NextIds.{beyond}
use Rattle.op_core.proofs.Sets.Clashes.{get_id, get_cases}
use Rattle.op_core.proofs.Sets.Groupings.{get_bare}
use Rattle.bundle_codec.specs.Summaries.{NameRanges}
use Rattle.bundle_codec.specs.SummaryReading.{read_summary}
use Rattle.bundle_codec.specs.declared.fault.WholeFault.{WholeFault}
use Rattle.replica_state.specs.declared.fault.EditFault.{EditFault}
use Rattle.replica_state.specs.declared.fault.EditFault.TheVariants.{NotShown}
use Rattle.replica_state.specs.declared.fault.SinceFault.{SinceFault}
use Rattle.replica_state.specs.States.{State}
use Rattle.replica_state.specs.Edits.{edit_with, edit_by, edit_fault, first_not_shown, next_id, unless}
use Rattle.replica_state.specs.Since.{stood_ids, changed_keys, since_change, imported_since}
use Rattle.replica_state.specs.Steps.{with_ops}
use Rattle.replica_state.specs.World.{World, Event, Edits, EditsOver, Imports, Thins, Summarizes, Bundles, Receives, IsWithin}
use Rattle.replica_state.specs.World.{world, replica, made, edit_made, replica_name}
use Rattle.replica_state.specs.World.Calls.{edits_of}
use Rattle.replica_state.specs.World.Schedules as moments
use Rattle.replica_state.specs.World.Schedules.{At, Holds, IsOrThinned}
use Rattle.replica_state.specs.World.Exchanges as exchanges
use Rattle.replica_state.proofs.ChangeRuns.{among_passing}
use Rattle.replica_state.proofs.World.Exchanges.{relay_tells}
use Rattle.replica_state.proofs.World.Moments.{whole, the_twin, none_at_first, holds_own, found_whole}
use Rattle.replica_state.proofs.World.Next.{is_next, names_shown}
use Rattle.replica_state.proofs.World.Runs.{at_maker, made_name}
use Rattle.usfm_cli.specs.Commands.{text_shown}
use Rattle.usfm_cli.specs.Schedules.{Files, FileCommand, files, IsWritten, IsGiven, AreDone, IsFileOf}
use Rattle.usfm_cli.specs.Schedules.Relays.{if_edit}
use Rattle.usfm_cli.specs.Schedules.Making.{shown_with, in_view, Makes, WasMade}
use Rattle.usfm_cli.specs.declared.command.Command.{Command}
use Rattle.usfm_cli.specs.declared.command.Command.TheVariants as command
use Rattle.usfm_cli.proofs.Schedules.Places.{place_in, place_is, place_there}
use Rattle.usfm_cli.proofs.Schedules.Events.{copying, receiving, answering, since_if, since_at, importing, events_of}
use Rattle.usfm_cli.proofs.Schedules.Events.{onto, events, onto_grows}
use Rattle.usfm_cli.proofs.Schedules.Every.{mirrored, is_replica}
use Rattle.usfm_cli.proofs.Schedules.Mirrors.{Mirrors, made_at, loads}

-- ---- which of some events made an operation

-- one of the events, each after those before it, makes the operation
abbrev pub MadeIn : List Event → List Event → Operation → Type 0
MadeIn [] past o = ⊥
MadeIn (e ∷ later) past o = moments.Makes (world past) e o ⊎ MadeIn later (e ∷ past) o

-- what is held after events its maker held before, or one of them made it
came : (later past : List Event) (name : List ℕ) (q : Id) (o : Operation) → get ((whole (onto later past)).held name) q ≡ Some o
    → (get ((whole past).held q.name) q ≡ Some o) ⊎ MadeIn later past o
came [] past name q o g = inl (at_maker (whole past) (the_twin.sound past) (At name) q o g)
came (e ∷ later) past name q o g = by (came later (e ∷ past) name q o g)
  where
    one : (get ((whole past).held q.name) q ≡ Some o) ⊎ (get (made (world past) e) q ≡ Some o)
        → (get ((whole past).held q.name) q ≡ Some o) ⊎ MadeIn (e ∷ later) past o
    one (inl h) = inl h
    one (inr m) = inr (inl (ap (get (made (world past) e)) (get_id (made (world past) e) q o m) ∙ m))

    by : (get ((whole (e ∷ past)).held q.name) q ≡ Some o) ⊎ MadeIn later (e ∷ past) o
        → (get ((whole past).held q.name) q ≡ Some o) ⊎ MadeIn (e ∷ later) past o
    by (inl h) = one ((the_twin.moves e past).comes q.name q o h)
    by (inr m) = inr (inr m)

-- the event that made it, and its moment
record MadeAt (later past : List Event) (o : Operation) : Type 0 where
  after : List Event
  event : Event
  moment : List Event
  here : onto later past ≡ after ++ event ∷ moment
  before : exchanges.IsBefore past moment
  makes : moments.Makes (world moment) event o

made_when : (later past : List Event) (o : Operation) → MadeIn later past o → MadeAt later past o
made_when [] past o m = absurd m
made_when (e ∷ later) past o (inl m) =
    let r = onto_grows later (e ∷ past) in
    record { after = r.0; event = e; moment = past; here = r.1; before = ([], refl); makes = m }
made_when (e ∷ later) past o (inr m) =
    let r = made_when later (e ∷ past) o m in
    record {
      after = r.after;
      event = r.event;
      moment = r.moment;
      here = r.here;
      before = (r.before.0 ++ (e ∷ []), r.before.1 ∙ sym (append_assoc r.before.0 (e ∷ []) past));
      makes = r.makes;
    }

-- what an event makes its replica had not at any moment before
lacked_before : (past moment : List Event) (e : Event) (name : List ℕ) (o : Operation) → exchanges.IsBefore past moment
    → replica_name e ≡ name → moments.Makes (world moment) e o → get ((world past).held name) o.id ≡ None
lacked_before past moment e name o b is m = by (get ((world past).held name) o.id) refl
  where
    held : List Operation
    held = (world past).held name

    now : List Operation
    now = (world moment).held name

    none : get now o.id ≡ None
    none = subst (λ (n : List ℕ). get ((world moment).held n) o.id ≡ None) is
        (beyond ((world moment).held (replica_name e)) o.id (is_next (world moment) e o m).greater)

    by : (r : Option Operation) → get held o.id ≡ r → get held o.id ≡ None
    by None f = f
    by (Some x) f =
        let same : x.id ≡ o.id = get_id held o.id x f in
        let was : Holds held x = get_bare held x.id ∙ ap (option_map bare) (ap (get held) same ∙ f) in
        let then : Holds now x = relay_tells name name past moment [] (refl, b) x was in
        cc (sym (get_bare now x.id ∙ ap (option_map bare) (ap (get now) same ∙ none)) ∙ then)

-- ---- what the events of a command see

-- an operation with a name that names ids of these alone, as they are of its segment
record Sees (name : List ℕ) (shows : Segment → List Id) (o : Operation) : Type 0 where
  own_name : o.id.name ≡ name
  seen : (id : Id) → names o id ≡ true → is_among (shows o.segment) id ≡ true

-- an edit over given ids names given ones alone, in its segment
made_over : (v : World) (name : List ℕ) (g : Segment) (text : List ℕ) (given : List Id) (o : Operation)
    → moments.Makes v (EditsOver name g text given) o
    → (o.segment ≡ g) × ((id : Id) → names o id ≡ true → is_among given id ≡ true)
made_over v name g text given o m =
    by (edit_fault (v.held name) g text) (option_map NotShown (first_not_shown (v.held name) g given)) (next_id (replica v name)) m
  where
    Over : Operation → Type 0
    Over x = (x.segment ≡ g) × ((id : Id) → names x id ≡ true → is_among given id ≡ true)

    by : (f h : Option EditFault) (n : Option Id)
        → get (edit_made (unless f (unless h (edit_by n g (given_ids (v.held name) g given) text)))) o.id ≡ Some o → Over o
    by (Some f) h n e = cc e
    by None (Some h) n e = cc e
    by None None None e = cc e
    by None None (Some q) e =
        get_cases o.id (edit_with q g (given_ids (v.held name) g given) text) [] o e
        (λ _ is. subst Over is (refl, λ id n. (and_parts _ _ (sym (among_passing (is_among given) (shown_ids (v.held name) g) id) ∙ n)).1))
        (λ none. cc none)

-- the edits of an import since a base see what is shown with the base received
sees_since : (name : List ℕ) (held base : List Operation) (book : List ℕ) (pieces : List PieceParts) (keys : List KeyParts)
    (past : List Event) (o : Operation) → MadeIn (edits_of name book (map (since_change held base book pieces) keys)) past o
    → Sees name (shown_ids held) o
sees_since name held base book pieces [] past o m = absurd m
sees_since name held base book pieces (key ∷ keys) past o (inl m) =
    let c = since_change held base book pieces key in
    let g = segment book key in
    let r = made_over (world past) name g c.text c.ids o m in
    record {
      own_name = made_name (world past) (EditsOver name g c.text c.ids) o.id o m;
      seen = λ id n. subst (λ (h : Segment). is_among (shown_ids held h) id ≡ true) (sym r.0)
          (and_parts _ _ (sym (among_passing (is_among (stood_ids base g)) (shown_ids held g) id) ∙ r.1 id n)).0;
    }
sees_since name held base book pieces (key ∷ keys) past o (inr m) =
    let c = since_change held base book pieces key in
    sees_since name held base book pieces keys (EditsOver name (segment book key) c.text c.ids ∷ past) o m

module _ (w : Files) (past : List Event) (within : AllByRecursion IsWithin past) (m : Mirrors w (world past)) (name : List ℕ)
    (o : Operation) where
  abbrev SeesOwn : Type 0
  SeesOwn = Sees name (shown_ids ((world past).held name)) o

  one_sees : (e : Event) → replica_name e ≡ name → moments.Makes (world past) e o → SeesOwn
  one_sees e is m = record {
    own_name = made_name (world past) e o.id o m ∙ is;
    seen = λ id n. subst (λ (k : List ℕ). is_among (shown_ids ((world past).held k) o.segment) id ≡ true) is
        (names_shown past e o id m n);
  }

  if_text : (e : Event) → replica_name e ≡ name → (b : Bool) → MadeIn (cond b (e ∷ []) []) past o → SeesOwn
  if_text e is true (inl m) = one_sees e is m
  if_text e is true (inr m) = absurd m
  if_text e is false m = absurd m

  copy_sees : (g : Segment) (ids : List Id) (r : Option (List ℕ)) → MadeIn (copying name g ids r) past o → SeesOwn
  copy_sees g ids None m = absurd m
  copy_sees g ids (Some text) (inl m) = one_sees (EditsOver name g text ids) refl m
  copy_sees g ids (Some text) (inr m) = absurd m

  -- ---- an import since a base

  answer_sees : (k : ℕ) (ops : List Operation) (file : List ℕ) (r : Result ℕ SinceFault) (b : Result (List ℕ) BookFault)
      → MadeIn (since_if (replica (world past) name) k ops file r b) past o
      → Sees name (shown_ids (with_ops (replica (world past) name) ops).held) o
  answer_sees k ops file (Err fault) b m = absurd m
  answer_sees k ops file (Ok count) (Err fault) m = absurd m
  answer_sees k ops file (Ok count) (Ok book) (inl m) = cc m
  answer_sees k ops file (Ok count) (Ok book) (inr m) =
      let held = (with_ops (replica (world past) name) ops).held in
      sees_since name held ops book (pieces_of file) (changed_keys held ops book (pieces_of file)) (Receives name k ∷ past) o m

  since_sees : (file base : Bor (List ℕ)) → IsWritten w.bundles base.now → (b : Bool)
      → MadeIn (cond b (importing (world past) name file.now (place_in w.bundles base.now)) []) past o
      → Sees name (in_view (replica (world past) name) (command.ImportSince file base)) o
  since_sees file base g false m = absurd m
  since_sees file base g true made =
      let p = place_there w.bundles base.now g.place g.is in
      let x = made_at w past within m base.now p.0 (place_is w.bundles base.now p.0 p.1) g.short in
      let own = replica (world past) name in
      let at : MadeIn (since_at own p.0 file.now (Some x.ops)) past o =
      subst (λ (r : Option (List Operation)). MadeIn (since_at own p.0 file.now r) past o) x.made
      (subst (λ (r : Option ℕ). MadeIn (importing (world past) name file.now r) past o) p.1 made) in
      subst (λ (r : Result (List Operation) WholeFault). Sees name (shown_with own r) o) (sym x.reads)
      (answer_sees p.0 x.ops file.now (imported_since own x.ops file.now).answer (book_in file.now) at)

  -- ---- each command

  record SeesAll (c : Command) : Type 0 where
    edits : if_edit c false ≡ false
    sees : Sees name (in_view (replica (world past) name) c) o

  none_received : (r : Option ℕ) → MadeIn (receiving name r) past o → ⊥
  none_received None m = m
  none_received (Some k) (inl m) = cc m
  none_received (Some k) (inr m) = m

  none_answered : (held : List Operation) (r : Option (List NameRanges)) → MadeIn (answering name held r) past o → ⊥
  none_answered held None m = m
  none_answered held (Some known) (inl m) = cc m
  none_answered held (Some known) (inr m) = m

  none_one : (e : Event) → made (world past) e ≡ [] → MadeIn (e ∷ []) past o → ⊥
  none_one e is (inl m) = cc (sym (ap (λ (ops : List Operation). get ops o.id) is) ∙ m)
  none_one e is (inr m) = m

  sees_all : (c : Command) → IsGiven w c → MadeIn (events_of w (world past) name c) past o → SeesAll c
  sees_all (command.Import file) g m = record { edits = refl; sees = if_text (Imports name file.now) refl (is_utf8 file.now) m }
  sees_all (command.ImportSince file base) g m = record { edits = refl; sees = since_sees file base g (is_utf8 file.now) m }
  sees_all (command.Edit book key text) g m =
      record { edits = refl; sees = if_text (Edits name (segment book key) text.now) refl (is_utf8 text.now) m }
  sees_all (command.EditOver book key text ids) g m =
      record { edits = refl; sees = if_text (EditsOver name (segment book key) text.now ids.now) refl (is_utf8 text.now) m }
  sees_all (command.EditWith book key of ids) g m = record {
    edits = refl;
    sees = copy_sees (segment book key) ids.now (text_shown ((world past).held name) (segment book key) of) m;
  }
  sees_all (command.Receive bytes) g m = absurd (none_received (place_in w.bundles bytes.now) m)
  sees_all command.Thin g m = absurd (none_one (Thins name) refl m)
  sees_all (command.Shown book key) g m = absurd m
  sees_all command.Send g m = absurd (none_one (Bundles name (is_held ((world past).held name))) refl m)
  sees_all (command.Export book) g m = absurd m
  sees_all command.Summary g m = absurd (none_one (Summarizes name) refl m)
  sees_all (command.Delta summary) g m =
      absurd (none_answered ((world past).held name) (read_summary summary.now) m)
  sees_all command.Report g m = absurd m
  sees_all (command.Check book sheet) g m = absurd m
  sees_all (command.Find book sheet needle) g m = absurd m
  sees_all (command.Words book sheet) g m = absurd m

-- ---- which command it was

makes : (c : FileCommand) (past : List FileCommand) (o : Operation) → AreDone (c ∷ past)
    → MadeIn (events_of (files past) (world (events past)) c.name c.command) (events past) o → Makes past c o
makes c past o d m =
    let r = mirrored past d.1 in
    let x = sees_all (files past) (events past) r.within r.mirrors c.name o c.command d.0.given m in
    let es = events_of (files past) (world (events past)) c.name c.command in
    let at = made_when es (events past) o m in
    let own = holds_own at.after at.event at.moment o at.makes in
    let name : replica_name at.event ≡ c.name = sym own.own_name ∙ x.sees.own_name in
    record {
      edits = x.edits;
      own_name = x.sees.own_name;
      before = replica (world (events past)) c.name;
      read = loads (files past) (events past) r.within r.mirrors c.name d.0.named d.0.short;
      new = lacked_before (events past) at.moment at.event c.name o at.before name at.makes;
      seen = x.sees.seen;
      after = replica (world (events (c ∷ past))) c.name;
      made = (mirrored (c ∷ past) d).mirrors.file c.name;
      held = subst (λ (n : List ℕ). Holds ((world (events (c ∷ past))).held n) o) name
          (subst (λ (all : List Event). Holds ((world all).held (replica_name at.event)) o) (sym at.here) own.is_held);
    }

was_made : (commands : List FileCommand) → AreDone commands → (name : List ℕ) (q : Id) (o : Operation)
    → get ((whole (events commands)).held name) q ≡ Some o → WasMade commands o
was_made [] d name q o g = absurd (none_at_first name q o g)
was_made (c ∷ past) d name q o g =
    by (was_made past d.1 q.name q o) (came (events_of (files past) (world (events past)) c.name c.command) (events past) name q o g)
  where
    by : (get ((whole (events past)).held q.name) q ≡ Some o → WasMade past o)
        → (get ((whole (events past)).held q.name) q ≡ Some o)
        ⊎ MadeIn (events_of (files past) (world (events past)) c.name c.command) (events past) o → WasMade (c ∷ past) o
    by before (inl h) =
        let r = before h in
        record {
          later = c ∷ r.later;
          command = r.command;
          past = r.past;
          here = ap (λ (cs : List FileCommand). c ∷ cs) r.here;
          makes = r.makes;
        }
    by before (inr m) = record { later = []; command = c; past = past; here = refl; makes = makes c past o d m }

pub names_what_was_shown : (commands : List FileCommand) (name : List ℕ) (s : State) (id : Id) (x : Operation) → AreDone commands
    → IsFileOf (files commands) name s → get s.held id ≡ Some x → (o : Operation) × WasMade commands o × IsOrThinned x o
names_what_was_shown commands name s id x d f g =
    let is = is_replica commands name s d f in
    let r = found_whole (events commands) (At name) id x (ap (λ (u : State). get u.held id) (sym is) ∙ g) in
    (r.0, was_made commands d name id r.0 r.1, r.2)
