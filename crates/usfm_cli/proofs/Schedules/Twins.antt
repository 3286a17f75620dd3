-- Files beside those of a twin of the schedule, in which no copy thins.
use Rattle.std.proofs.Common.{Bor, ◌≡◌, ◌≢◌, inl, inr, ◌<◌, ◌^◌, ℕ, Bool, true, false, cond, List, [], ◌∷◌, length}
use Rattle.std.proofs.Common.{Option, None, Some, option_map, Result, Ok, Err, IsTrue, refl, sym, ap, subst, ◌∙◌}
use Rattle.std.specs.Prelude.{slice_get}
use Rattle.std.specs.List.{find, flat_map}
use Rattle.std.specs.Str.{is_utf8}
use Rattle.usfm_ref.specs.Segments.{segment}
use Rattle.usfm_ref.specs.declared.segment.Segment.{Segment}
use Rattle.verse_cut.specs.declared.fault.BookFault.{BookFault}
use Rattle.verse_cut.specs.Pieces.{pieces_of}
use Rattle.verse_cut.specs.Reading.{book_in}
use Rattle.op_core.specs.Names.{is_name}
use Rattle.op_core.specs.Ids.{Id, same_id}
use Rattle.op_core.specs.Ops.{Operation, own_text}
use Rattle.op_core.specs.Sets.{clash}
use Rattle.op_core.specs.Thinned.{StandsFor}
use Rattle.op_core.proofs.ThinnedSets.StandIns.{full_stands}
use Rattle.bundle_codec.specs.Spelling.{bundle}
use Rattle.bundle_codec.specs.Summaries.{NameRanges, summary}
use Rattle.bundle_codec.specs.SummaryReading.{read_summary}
use Rattle.replica_state.specs.declared.fault.SinceFault.{SinceFault}
use Rattle.replica_state.specs.States.{State}
use Rattle.replica_state.specs.Changes.{ChangeParts}
use Rattle.replica_state.specs.Since.{since_changes, imported_since}
use Rattle.replica_state.specs.Steps as steps
use Rattle.replica_state.specs.Steps.{with_ops}
use Rattle.replica_state.specs.World.{World, Event, Edits, EditsOver, Imports, world, replica, happens, with_bundle, received}
use Rattle.replica_state.specs.World.Calls.{edits_of, all_happen}
use Rattle.replica_state.proofs.World.Shows.{stands_shows}
use Rattle.replica_state.proofs.World.Twins.{no_clash_here}
use Rattle.project_file.specs.declared.fault.LoadFault.{LoadFault}
use Rattle.conflict_report.proofs.Worlds.{stand_ins_report}
use Rattle.usfm_cli.specs.Commands.{shown_line, text_shown, only_tells}
use Rattle.usfm_cli.specs.Projects.{Written, of_loaded, executed}
use Rattle.usfm_cli.specs.ExecLaws.{output_of}
use Rattle.usfm_cli.specs.Schedules.{FileCommand, files, IsWritten, IsFrontOf, IsGiven, AreDone, IsFileOf}
use Rattle.usfm_cli.specs.Schedules.Twins.{sent_with, sent, AtOnePlace, IsSame, IsLeftOut, IsTwin, WriteTheSame}
use Rattle.usfm_cli.specs.declared.command.Command.{Command}
use Rattle.usfm_cli.specs.declared.command.Command.TheVariants as command
use Rattle.command_faults.specs.declared.fault.Fault.{Fault}
use Rattle.usfm_cli.proofs.ReadTheSame.{exported, reported}
use Rattle.usfm_cli.proofs.ReadAlike.{texts_alike}
use Rattle.usfm_cli.proofs.Schedules.Places.{place_in, place_is}
use Rattle.usfm_cli.proofs.Schedules.Events.{copying, receiving, answering, since_if, since_at, importing, events_of, events, onto_happens}
use Rattle.usfm_cli.proofs.Schedules.Every.{mirrored, is_replica}
use Rattle.usfm_cli.proofs.Schedules.Mirrors.{sets, does, made_at, cut_at, short_front}
use Rattle.usfm_cli.proofs.Schedules.SinceAlike.{changes_same, answer_same}
use Rattle.usfm_cli.proofs.Schedules.Standing.{Holdings, AllStand, both, steps_stand, edits_stand, thins_stand}
use Rattle.usfm_cli.proofs.Schedules.Standing.{SentBoth, EachSent, sent_at, takes_in, all_of_it}

-- ---- two schedules side by side

record Twinned (past twins : List FileCommand) : Type 0 where
  held : AllStand (world (events past)).held (world (events twins)).held
  sent : EachSent (sent past) (sent twins)

-- a command that only reports leaves each replica as it was
bundle_keeps : (v : World) (ops : List Operation) (b : Bool) → (with_bundle v ops b).held ≡ v.held
bundle_keeps v ops true = refl
bundle_keeps v ops false = refl

module _ (past twins : List FileCommand) (d : AreDone past) (e : AreDone twins) (h : Twinned past twins) (name : List ℕ) where
  abbrev here : World
  here = world (events past)

  abbrev there : World
  there = world (events twins)

  abbrev After : Command → Command → Type 0
  After c t =
      AllStand (all_happen (world (events past)) (events_of (files past) (world (events past)) name c)).held
      (all_happen (world (events twins)) (events_of (files twins) (world (events twins)) name t)).held

  if_text : (x : Event) → AllStand (happens here x).held (happens there x).held → (b : Bool)
      → AllStand (all_happen here (cond b (x ∷ []) [])).held (all_happen there (cond b (x ∷ []) [])).held
  if_text x s true = s
  if_text x s false = h.held

  copies : (g : Segment) (ids : List Id) (r : Option (List ℕ))
      → AllStand (all_happen here (copying name g ids r)).held (all_happen there (copying name g ids r)).held
  copies g ids None = h.held
  copies g ids (Some text) = steps_stand here there name (steps.EditOver g text ids) (steps.EditOver g text ids) h.held refl

  bundles : (ops full : List Operation) (b c : Bool) → AllStand (with_bundle here ops b).held (with_bundle there full c).held
  bundles ops full b c =
      both (with_bundle here ops b).held here.held (with_bundle there full c).held there.held (bundle_keeps here ops b)
      (bundle_keeps there full c) h.held

  answers : (r s : Option (List NameRanges))
      → AllStand (all_happen here (answering name (here.held name) r)).held (all_happen there (answering name (there.held name) s)).held
  answers r s = both (all_happen here (answering name (here.held name) r)).held here.held
      (all_happen there (answering name (there.held name) s)).held there.held (keeps here r) (keeps there s) h.held
    where
      keeps : (v : World) (r : Option (List NameRanges)) → (all_happen v (answering name (v.held name) r)).held ≡ v.held
      keeps v None = refl
      keeps v (Some known) = bundle_keeps v _ _

  -- ---- what is received

  receives : (bytes twin : Bor (List ℕ)) → IsFrontOf (files past).bundles bytes.now → IsFrontOf (files twins).bundles twin.now
      → AtOnePlace past twins bytes.now twin.now → After (command.Receive bytes) (command.Receive twin)
  receives bytes twin f g at =
      let b = sent_at (sent past) (sent twins) h.sent at.place bytes.now twin.now at.here at.there in
      let x = takes_in past bytes.now b.ops d f b.here in
      let y = takes_in twins twin.now b.full e g b.there in
      both (all_happen here (receiving name (place_in (files past).bundles bytes.now))).held
      (received here name (Some b.ops)).held
      (all_happen there (receiving name (place_in (files twins).bundles twin.now))).held
      (received there name (Some b.full)).held
      (ap (λ (r : Option ℕ). (all_happen here (receiving name r)).held) x.is
      ∙ ap (λ (o : Option (List Operation)). (received here name o).held) x.made)
      (ap (λ (r : Option ℕ). (all_happen there (receiving name r)).held) y.is
      ∙ ap (λ (o : Option (List Operation)). (received there name o).held) y.made)
      (steps_stand here there name (steps.Receive b.ops) (steps.Receive b.full) h.held
      (b.stands, no_clash_here (events twins) name y.place b.full y.made))

  -- ---- an import since a base

  module _ (file : List ℕ) (k n : ℕ) (ops full : List Operation) (made : slice_get (world (events past)).bundles k ≡ Some ops)
      (twin_made : slice_get (world (events twins)).bundles n ≡ Some full) (stands : StandsFor ops full) where
    clear : clash ((world (events twins)).held name) full ≡ None
    clear = no_clash_here (events twins) name n full twin_made

    since_both : (r : Result ℕ SinceFault) (b : Result (List ℕ) BookFault)
        → AllStand (all_happen here (since_if (replica here name) k ops file r b)).held
        (all_happen there (since_if (replica there name) n full file r b)).held
    since_both (Err fault) b = h.held
    since_both (Ok count) (Err fault) = h.held
    since_both (Ok count) (Ok book) =
        let pieces = pieces_of file in
        let changes = since_changes (with_ops (replica here name) ops).held ops book pieces in
        let others = since_changes (with_ops (replica there name) full).held full book pieces in
        let first = steps_stand here there name (steps.Receive ops) (steps.Receive full) h.held (stands, clear) in
        let same : changes ≡ others =
        changes_same name (here.held name) (there.held name) ops full (h.held name) stands clear book pieces in
        both (all_happen (received here name (slice_get here.bundles k)) (edits_of name book changes)).held
        (all_happen (received here name (Some ops)) (edits_of name book changes)).held
        (all_happen (received there name (slice_get there.bundles n)) (edits_of name book others)).held
        (all_happen (received there name (Some full)) (edits_of name book changes)).held
        (ap (λ (o : Option (List Operation)). (all_happen (received here name o) (edits_of name book changes)).held) made)
        (ap (λ (o : Option (List Operation)). (all_happen (received there name o) (edits_of name book others)).held) twin_made
        ∙ ap (λ (cs : List ChangeParts). (all_happen (received there name (Some full)) (edits_of name book cs)).held) (sym same))
        (edits_stand name book changes (received here name (Some ops)) (received there name (Some full)) first)

    since_at_both : AllStand (all_happen here (since_at (replica here name) k file (slice_get here.bundles k))).held
        (all_happen there (since_at (replica there name) n file (slice_get there.bundles n))).held
    since_at_both =
        let r = (imported_since (replica here name) ops file).answer in
        both (all_happen here (since_at (replica here name) k file (slice_get here.bundles k))).held
        (all_happen here (since_if (replica here name) k ops file r (book_in file))).held
        (all_happen there (since_at (replica there name) n file (slice_get there.bundles n))).held
        (all_happen there (since_if (replica there name) n full file r (book_in file))).held
        (ap (λ (o : Option (List Operation)). (all_happen here (since_at (replica here name) k file o)).held) made)
        (ap (λ (o : Option (List Operation)). (all_happen there (since_at (replica there name) n file o)).held) twin_made
        ∙ ap (λ (a : Result ℕ SinceFault). (all_happen there (since_if (replica there name) n full file a (book_in file))).held)
        (sym (answer_same name (here.held name) (there.held name) ops full (h.held name) stands clear file)))
        (since_both r (book_in file))

  imports_since : (file base twin : Bor (List ℕ)) → IsWritten (files past).bundles base.now → IsWritten (files twins).bundles twin.now
      → AtOnePlace past twins base.now twin.now → After (command.ImportSince file base) (command.ImportSince file twin)
  imports_since file base twin f g at = by (is_utf8 file.now)
    where
      by : (b : Bool)
          → AllStand (all_happen here (cond b (importing here name file.now (place_in (files past).bundles base.now)) [])).held
          (all_happen there (cond b (importing there name file.now (place_in (files twins).bundles twin.now)) [])).held
      by false = h.held
      by true =
          let b = sent_at (sent past) (sent twins) h.sent at.place base.now twin.now at.here at.there in
          let x = takes_in past base.now b.ops d (all_of_it (files past).bundles base.now f) b.here in
          let y = takes_in twins twin.now b.full e (all_of_it (files twins).bundles twin.now g) b.there in
          both (all_happen here (importing here name file.now (place_in (files past).bundles base.now))).held
          (all_happen here (importing here name file.now (Some x.place))).held
          (all_happen there (importing there name file.now (place_in (files twins).bundles twin.now))).held
          (all_happen there (importing there name file.now (Some y.place))).held
          (ap (λ (r : Option ℕ). (all_happen here (importing here name file.now r)).held) x.is)
          (ap (λ (r : Option ℕ). (all_happen there (importing there name file.now r)).held) y.is)
          (since_at_both file.now x.place y.place b.ops b.full x.made y.made b.stands)

  -- ---- the same command in both

  alike : (c : Command) → only_tells c ≡ true → After c c
  alike (command.Import file) t = cc t
  alike (command.ImportSince file base) t = cc t
  alike (command.Edit book key text) t = cc t
  alike (command.EditOver book key text ids) t = cc t
  alike (command.EditWith book key of ids) t = cc t
  alike (command.Receive bytes) t = cc t
  alike command.Thin t = cc t
  alike (command.Shown book key) t = h.held
  alike command.Send t = bundles _ _ _ _
  alike (command.Export book) t = h.held
  alike command.Summary t = h.held
  alike (command.Delta bytes) t = answers (read_summary bytes.now) (read_summary bytes.now)
  alike command.Report t = h.held
  alike (command.Check book sheet) t = h.held
  alike (command.Find book sheet needle) t = h.held
  alike (command.Words book sheet) t = h.held

  as_it : (c t : Command) → t ≡ c → After c c → After c t
  as_it c t is s = subst (After c) (sym is) s

  same_held : (c t : Command) → IsGiven (files past) c → IsGiven (files twins) t → IsSame past twins c t → After c t
  same_held (command.Import file) t g k is =
      let x = steps.Import file.now in
      as_it (command.Import file) t is
      (if_text (Imports name file.now) (steps_stand here there name x x h.held refl) (is_utf8 file.now))
  same_held (command.ImportSince file base) t g k is =
      subst (After (command.ImportSince file base)) (sym is.1)
      (imports_since file base is.0 g (subst (IsGiven (files twins)) is.1 k) is.2)
  same_held (command.Edit book key text) t g k is =
      let x = steps.Edit (segment book key) text.now in
      as_it (command.Edit book key text) t is
      (if_text (Edits name (segment book key) text.now) (steps_stand here there name x x h.held refl) (is_utf8 text.now))
  same_held (command.EditOver book key text ids) t g k is =
      let x = steps.EditOver (segment book key) text.now ids.now in
      as_it (command.EditOver book key text ids) t is
      (if_text (EditsOver name (segment book key) text.now ids.now) (steps_stand here there name x x h.held refl) (is_utf8 text.now))
  same_held (command.EditWith book key of ids) t g k is =
      let at = segment book key in
      let shows : text_shown (here.held name) at of ≡ text_shown (there.held name) at of =
      ap (λ (ops : List Operation). option_map (λ o. own_text o) (find (λ o. same_id o.id of) ops))
      ((stands_shows (here.held name) (there.held name) (h.held name)).shown at) in
      as_it (command.EditWith book key of ids) t is
      (subst (λ (r : Option (List ℕ)). AllStand (all_happen here (copying name at ids.now (text_shown (here.held name) at of))).held
      (all_happen there (copying name at ids.now r)).held) shows (copies at ids.now (text_shown (here.held name) at of)))
  same_held (command.Receive bytes) t g k is =
      subst (After (command.Receive bytes)) (sym is.1)
      (receives bytes is.0 g (subst (IsGiven (files twins)) is.1 k) is.2)
  same_held command.Thin t g k is = absurd is
  same_held (command.Shown book key) t g k is = as_it (command.Shown book key) t is (alike (command.Shown book key) refl)
  same_held command.Send t g k is = as_it command.Send t is (alike command.Send refl)
  same_held (command.Export book) t g k is = as_it (command.Export book) t is (alike (command.Export book) refl)
  same_held command.Summary t g k is = as_it command.Summary t is (alike command.Summary refl)
  same_held (command.Delta bytes) t g k is = as_it (command.Delta bytes) t is (alike (command.Delta bytes) refl)
  same_held command.Report t g k is = as_it command.Report t is (alike command.Report refl)
  same_held (command.Check book sheet) t g k is = as_it (command.Check book sheet) t is (alike (command.Check book sheet) refl)
  same_held (command.Find book sheet needle) t g k is =
      as_it (command.Find book sheet needle) t is (alike (command.Find book sheet needle) refl)
  same_held (command.Words book sheet) t g k is = as_it (command.Words book sheet) t is (alike (command.Words book sheet) refl)

  -- ---- the whole bundles after it

  abbrev Sent : Command → Command → Type 0
  Sent c t =
      EachSent (sent_with c (executed ((files past).file name) c) (sent past))
      (sent_with t (executed ((files twins).file name) t) (sent twins))

  module _ (named : IsTrue (is_name name)) (short : length ((files past).file name) < 2 ^ 64)
      (twin_short : length ((files twins).file name) < 2 ^ 64) where
    sends : Sent command.Send command.Send
    sends =
        let r = mirrored past d in
        let q = mirrored twins e in
        let all = sets (files past) (events past) r.within r.mirrors in
        let full = sets (files twins) (events twins) q.within q.mirrors in
        let wrote : sent_with command.Send (executed ((files past).file name) command.Send) (sent past)
        ≡ bundle (here.held name) ∷ sent past =
        ap (λ (x : Result Written Fault). sent_with command.Send x (sent past))
        (does (files past) (events past) r.within r.mirrors name named short command.Send) in
        let twin_wrote : sent_with command.Send (executed ((files twins).file name) command.Send) (sent twins)
        ≡ bundle (there.held name) ∷ sent twins =
        ap (λ (x : Result Written Fault). sent_with command.Send x (sent twins))
        (does (files twins) (events twins) q.within q.mirrors name named twin_short command.Send) in
        let made : SentBoth (bundle (here.held name)) (bundle (there.held name)) = record {
          ops = here.held name;
          full = there.held name;
          here = record { set = all.held name; legal = all.held_legal name; spelled = refl };
          there = record { set = full.held name; legal = full.held_legal name; spelled = refl };
          stands = h.held name;
        } in
        subst (λ (p : List (List ℕ) × List (List ℕ)). EachSent p.0 p.1) (λ i. (sym wrote i, sym twin_wrote i)) (made, h.sent)

    sent_as : (c t : Command) → t ≡ c → Sent c c → Sent c t
    sent_as c t is s = subst (Sent c) (sym is) s

    same_sent : (c t : Command) → IsSame past twins c t → Sent c t
    same_sent (command.Import file) t is = sent_as (command.Import file) t is h.sent
    same_sent (command.ImportSince file base) t is = subst (Sent (command.ImportSince file base)) (sym is.1) h.sent
    same_sent (command.Edit book key text) t is = sent_as (command.Edit book key text) t is h.sent
    same_sent (command.EditOver book key text ids) t is = sent_as (command.EditOver book key text ids) t is h.sent
    same_sent (command.EditWith book key of ids) t is = sent_as (command.EditWith book key of ids) t is h.sent
    same_sent (command.Receive bytes) t is = subst (Sent (command.Receive bytes)) (sym is.1) h.sent
    same_sent command.Thin t is = absurd is
    same_sent (command.Shown book key) t is = sent_as (command.Shown book key) t is h.sent
    same_sent command.Send t is = sent_as command.Send t is sends
    same_sent (command.Export book) t is = sent_as (command.Export book) t is h.sent
    same_sent command.Summary t is = sent_as command.Summary t is h.sent
    same_sent (command.Delta bytes) t is = sent_as (command.Delta bytes) t is h.sent
    same_sent command.Report t is = sent_as command.Report t is h.sent
    same_sent (command.Check book sheet) t is = sent_as (command.Check book sheet) t is h.sent
    same_sent (command.Find book sheet needle) t is = sent_as (command.Find book sheet needle) t is h.sent
    same_sent (command.Words book sheet) t is = sent_as (command.Words book sheet) t is h.sent

  -- ---- what the twin leaves out

  record LeftOut (c : Command) : Type 0 where
    held : AllStand (all_happen (world (events past)) (events_of (files past) (world (events past)) name c)).held
        (world (events twins)).held
    sent : EachSent (sent_with c (executed ((files past).file name) c) (sent past)) (sent twins)

  cut : (bytes : Bor (List ℕ)) (f : IsFrontOf (files past).bundles bytes.now) → f.more ≢ [] → (r : Option ℕ)
      → place_in (files past).bundles bytes.now ≡ r → AllStand (all_happen here (receiving name r)).held there.held
  cut bytes f some None i = h.held
  cut bytes f some (Some k) i =
      let r = mirrored past d in
      let x = made_at (files past) (events past) r.within r.mirrors bytes.now k (place_is (files past).bundles bytes.now k i)
      (short_front (files past) (events past) r.within r.mirrors bytes.now f) in
      cc (sym (cut_at (files past) (events past) r.within r.mirrors bytes.now f some) ∙ x.reads)

  left_out : (c : Command) → IsLeftOut (files past) c → LeftOut c
  left_out command.Thin is = record { held = thins_stand here there name h.held; sent = h.sent }
  left_out (command.Receive bytes) is =
      record { held = cut bytes is.0 is.1 (place_in (files past).bundles bytes.now) refl; sent = h.sent }
  left_out (command.Import file) is = absurd is
  left_out (command.ImportSince file base) is = absurd is
  left_out (command.Edit book key text) is = absurd is
  left_out (command.EditOver book key text ids) is = absurd is
  left_out (command.EditWith book key of ids) is = absurd is
  left_out (command.Shown book key) is = absurd is
  left_out command.Send is = absurd is
  left_out (command.Export book) is = absurd is
  left_out command.Summary is = absurd is
  left_out (command.Delta bytes) is = absurd is
  left_out command.Report is = absurd is
  left_out (command.Check book sheet) is = absurd is
  left_out (command.Find book sheet needle) is = absurd is
  left_out (command.Words book sheet) is = absurd is

-- ---- every moment

happened : (c : FileCommand) (past : List FileCommand)
    → (world (events (c ∷ past))).held
    ≡ (all_happen (world (events past)) (events_of (files past) (world (events past)) c.name c.command)).held
happened c past =
    ap (λ (v : World). v.held) (onto_happens (events_of (files past) (world (events past)) c.name c.command) (events past))

leaves_out : (c : FileCommand) (past twins : List FileCommand) → AreDone past → AreDone twins → Twinned past twins
    → IsLeftOut (files past) c.command → Twinned (c ∷ past) twins
leaves_out c past twins d e h is =
    let r = left_out past twins d e h c.name c.command is in
    record {
      held = subst (λ (f : Holdings). AllStand f (world (events twins)).held) (sym (happened c past)) r.held;
      sent = r.sent;
    }

goes_alike : (c t : FileCommand) (past twins : List FileCommand) → AreDone (c ∷ past) → AreDone (t ∷ twins) → Twinned past twins
    → c.name ≡ t.name → IsSame past twins c.command t.command → Twinned (c ∷ past) (t ∷ twins)
goes_alike c t past twins d e h name same =
    let short : length ((files twins).file c.name) < 2 ^ 64 =
    subst (λ (n : List ℕ). length ((files twins).file n) < 2 ^ 64) (sym name) e.0.short in
    let held = same_held past twins d.1 e.1 h c.name c.command t.command d.0.given e.0.given same in
    record {
      held = both (world (events (c ∷ past))).held
          (all_happen (world (events past)) (events_of (files past) (world (events past)) c.name c.command)).held
          (world (events (t ∷ twins))).held
          (all_happen (world (events twins)) (events_of (files twins) (world (events twins)) c.name t.command)).held
          (happened c past)
          (happened t twins
          ∙ ap (λ (n : List ℕ). (all_happen (world (events twins)) (events_of (files twins) (world (events twins)) n t.command)).held)
          (sym name))
          held;
      sent = subst
          (λ (n : List ℕ). EachSent (sent (c ∷ past)) (sent_with t.command (executed ((files twins).file n) t.command) (sent twins)))
          name (same_sent past twins d.1 e.1 h c.name d.0.named d.0.short short c.command t.command same);
    }

twinned : (past twins : List FileCommand) → AreDone past → AreDone twins → IsTwin past twins → Twinned past twins
twinned [] [] d e way = record { held = λ name. full_stands [] refl refl; sent = tt }
twinned [] (t ∷ twins) d e way = absurd way
twinned (c ∷ past) [] d e way = leaves_out c past [] d.1 e (twinned past [] d.1 e way.1) way.0
twinned (c ∷ past) (t ∷ twins) d e (inl way) = leaves_out c past (t ∷ twins) d.1 e (twinned past (t ∷ twins) d.1 e way.1) way.0
twinned (c ∷ past) (t ∷ twins) d e (inr way) = goes_alike c t past twins d e (twinned past twins d.1 e.1 way.2) way.0 way.1

pub write_the_same : (past twins : List FileCommand) → AreDone past → AreDone twins → IsTwin past twins → (name : List ℕ) (s t : State)
    → IsFileOf (files past) name s → IsFileOf (files twins) name t → WriteTheSame ((files past).file name) ((files twins).file name)
write_the_same past twins d e way name s t f g =
    let stands : StandsFor s.held t.held =
    subst (λ (x : State × State). StandsFor x.0.held x.1.held)
    (λ i. (sym (is_replica past name s d f) i, sym (is_replica twins name t e g) i)) ((twinned past twins d e way).held name) in
    let shows = stands_shows s.held t.held stands in
    let own = (files past).file name in
    let twin = (files twins).file name in
    record {
      read = record {
        books = λ book.
            exported own s book f.reads
            ∙ texts_alike s.held t.held book stands.skeletons (shows.answers.export book) ∙ sym (exported twin t book g.reads);
        report = reported own s f.reads ∙ ap Ok (stand_ins_report s.held t.held stands) ∙ sym (reported twin t g.reads);
      };
      shown = λ book key.
          ap (λ (r : Result State LoadFault). output_of (of_loaded r (command.Shown book key))) f.reads
          ∙ ap (λ (ops : List Operation). Ok (flat_map shown_line ops)) (shows.shown (segment book key))
          ∙ sym (ap (λ (r : Result State LoadFault). output_of (of_loaded r (command.Shown book key))) g.reads);
      summary =
          ap (λ (r : Result State LoadFault). output_of (of_loaded r command.Summary)) f.reads
          ∙ ap (λ (x : List NameRanges). Ok (summary x)) shows.summaries
          ∙ sym (ap (λ (r : Result State LoadFault). output_of (of_loaded r command.Summary)) g.reads);
    }
