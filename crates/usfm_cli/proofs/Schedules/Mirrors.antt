-- Files under commands, and a world under the events that the commands are.
use Rattle.std.proofs.Common.{Bor, ◌≡◌, ◌≢◌, ◌<◌, ◌^◌, ℕ, zero, suc, Bool, true, false, cond, List, [], ◌∷◌, ◌++◌, append-nil, map, length}
use Rattle.std.proofs.Common.{Option, None, Some, Result, Ok, Err, IsTrue, arith, refl, sym, ap, subst, ◌∙◌}
use Rattle.std.specs.Prelude.{slice_get}
use Rattle.std.specs.List.{AllByRecursion}
use Rattle.std.specs.Str.{is_utf8}
use Rattle.std.specs.Str.Lossy.{utf8_valid_len}
use Rattle.std.proofs.lemmas.List.{length-append}
use Rattle.usfm_ref.specs.Books.{same_bytes}
use Rattle.usfm_ref.specs.Keys.{KeyParts}
use Rattle.usfm_ref.specs.Segments.{segment}
use Rattle.usfm_ref.proofs.Orders.{same_bytes-is}
use Rattle.op_core.specs.Names.{is_name}
use Rattle.op_core.specs.Ids.{Id}
use Rattle.op_core.specs.Ops.{Operation}
use Rattle.op_core.specs.Sets.{IsOpSet, clash}
use Rattle.op_core.specs.Lists.{is_held}
use Rattle.op_core.specs.Thinned.{is_legal, of_ids}
use Rattle.bundle_codec.specs.declared.fault.BundleFault.TheVariants.{Truncated}
use Rattle.bundle_codec.specs.declared.fault.WholeFault.{WholeFault}
use Rattle.bundle_codec.specs.declared.fault.WholeFault.TheVariants as whole
use Rattle.bundle_codec.specs.Joining.{whole_at}
use Rattle.bundle_codec.specs.Spelling.{bundle}
use Rattle.bundle_codec.specs.Summaries.{NameRanges, summary, summary_of, outside}
use Rattle.bundle_codec.specs.SummaryReading.{read_summary}
use Rattle.replica_state.specs.declared.fault.EditFault.{EditFault}
use Rattle.replica_state.specs.declared.fault.ImportFault.{ImportFault}
use Rattle.replica_state.specs.States.{State, IsState}
use Rattle.replica_state.specs.Steps as steps
use Rattle.replica_state.specs.Steps.{step, edited, imported}
use Rattle.replica_state.specs.Edits.{edit_op, edit_over_op}
use Rattle.replica_state.specs.Imports.{import_ops}
use Rattle.replica_state.specs.World.{World, Event, Imports, Bundles, IsWithin, world, replica}
use Rattle.replica_state.specs.World.{happens, with_held, with_bundle, received}
use Rattle.replica_state.specs.World as world_of
use Rattle.replica_state.specs.World.Calls.{all_happen}
use Rattle.replica_state.specs.World.Schedules.{AreSets}
use Rattle.replica_state.proofs.World.Bytes.{bundles_are_read}
use Rattle.replica_state.proofs.World.Calls.{lacking_ids, lacking_legal}
use Rattle.replica_state.proofs.World.Held.{all_ids}
use Rattle.replica_state.proofs.World.Sets.{hold_sets}
use Rattle.project_file.specs.declared.fault.LoadFault.{LoadFault}
use Rattle.project_file.specs.Projects.{project, project_at}
use Rattle.project_file.proofs.Files.{project_again}
use Rattle.usfm_cli.specs.Commands as commands
use Rattle.usfm_cli.specs.Commands.{done, done_if, reply_line, delta_for, text_shown, edit_by_text, outcome}
use Rattle.usfm_cli.specs.Projects.{Written, written, of_loaded, executed}
use Rattle.usfm_cli.specs.Schedules.{Files, IsWritten, IsFrontOf, bundles_with, summaries_with, with_written}
use Rattle.usfm_cli.specs.declared.command.Command.{Command}
use Rattle.usfm_cli.specs.declared.command.Command.TheVariants.{Import, Edit, EditOver, EditWith, Receive}
use Rattle.usfm_cli.specs.declared.command.Command.TheVariants.{Thin, Send, Summary, Delta}
use Rattle.command_faults.specs.declared.fault.Fault.{Fault}
use Rattle.command_faults.specs.declared.fault.Fault.TheVariants.{NotText}
use Rattle.usfm_cli.proofs.Schedules.Places.{place_in, place_is, place_there, mapped_at}
use Rattle.usfm_cli.proofs.Schedules.Events.{copying, receiving, answering, events_of}
use Rattle.usfm_cli.proofs.SummariesRead.{summary_again}

-- Each file is that of a replica of the world, and what was written is what was made there; each summary is that of a set.
pub record Mirrors (w : Files) (v : World) : Type 0 where
  pub file : (name : List ℕ) → w.file name ≡ project (replica v name)
  pub bundles : w.bundles ≡ map bundle v.bundles
  pub summaries : w.summaries ≡ map summary v.summaries
  pub told : (k : ℕ) (r : List NameRanges) → slice_get v.summaries k ≡ Some r
      → (held : List Operation) × IsOpSet held × (r ≡ summary_of held)

-- a bundle that was written is that of a set that was made, and read as that
pub record IsMadeAs (v : World) (k : ℕ) (bytes : List ℕ) : Type 0 where
  pub ops : List Operation
  pub made : slice_get v.bundles k ≡ Some ops
  pub spelled : bundle ops ≡ bytes
  pub reads : whole_at bytes ≡ Ok ops

-- the command writes neither a bundle nor a summary
abbrev pub WritesNone : Command → Type 0
WritesNone c = (output : List ℕ) (xs : List (List ℕ)) → (bundles_with c output xs ≡ xs) × (summaries_with c output xs ≡ xs)

module _ (w : Files) (past : List Event) (within : AllByRecursion IsWithin past) (m : Mirrors w (world past)) where
  pub sets : AreSets (world past)
  sets = hold_sets past within

  -- ---- what is given

  pub made_at : (bytes : List ℕ) (k : ℕ) → slice_get w.bundles k ≡ Some bytes → length bytes < 2 ^ 64 → IsMadeAs (world past) k bytes
  made_at bytes k e short =
      let x = mapped_at bundle (world past).bundles k bytes (ap (λ (xs : List (List ℕ)). slice_get xs k) (sym m.bundles) ∙ e) in
      record {
        ops = x.0;
        made = x.1;
        spelled = x.2;
        reads = ap whole_at (sym x.2)
            ∙ (bundles_are_read past within k x.0 x.1 (subst (λ (b : List ℕ). length b < 2 ^ 64) (sym x.2) short)).whole;
      }

  pub cut_at : (bytes : List ℕ) (f : IsFrontOf w.bundles bytes) → f.more ≢ [] → whole_at bytes ≡ Err (whole.Bundle Truncated)
  cut_at bytes f some =
      let k = f.written.place in
      let x = mapped_at bundle (world past).bundles k f.whole
      (ap (λ (xs : List (List ℕ)). slice_get xs k) (sym m.bundles) ∙ f.written.is) in
      (bundles_are_read past within k x.0 x.1 (subst (λ (b : List ℕ). length b < 2 ^ 64) (sym x.2) f.written.short)).cut bytes f.more
      (x.2 ∙ f.parts) some

  pub short_front : (bytes : List ℕ) → IsFrontOf w.bundles bytes → length bytes < 2 ^ 64
  short_front bytes f = omega (arith, ap length f.parts, length-append bytes f.more, f.written.short)

  -- a front that is written nowhere is a proper one
  pub is_proper : (bytes : List ℕ) (f : IsFrontOf w.bundles bytes) → place_in w.bundles bytes ≡ None → f.more ≢ []
  is_proper bytes f none empty =
      let all : f.whole ≡ bytes = f.parts ∙ ap (λ (more : List ℕ). bytes ++ more) empty ∙ append-nil bytes in
      let r = place_there w.bundles bytes f.written.place (f.written.is ∙ ap Some all) in
      cc (sym none ∙ r.1)

  pub read_back : (bytes : List ℕ) → IsWritten w.summaries bytes → (r : List NameRanges) × (read_summary bytes ≡ Some r)
  read_back bytes g =
      let x = mapped_at summary (world past).summaries g.place bytes
      (ap (λ (xs : List (List ℕ)). slice_get xs g.place) (sym m.summaries) ∙ g.is) in
      let t = m.told g.place x.0 x.1 in
      let is : bytes ≡ summary (summary_of t.0) = sym x.2 ∙ ap summary t.2 in (
        x.0,
        ap read_summary is ∙ summary_again t.0 t.1 (subst (λ (b : List ℕ). length b < 2 ^ 64) is g.short) ∙ ap Some (sym t.2),
      )

  module _ (name : List ℕ) (named : IsTrue (is_name name)) (short : length (w.file name) < 2 ^ 64) where
    abbrev s : State
    s = replica (world past) name

    pub state : IsState s
    state = record { name = named; set = sets.held name; legal = sets.held_legal name }

    pub loads : project_at (w.file name) ≡ Ok s
    loads =
        ap project_at (m.file name) ∙ project_again s state (subst (λ (f : List ℕ). length f < 2 ^ 64) (m.file name) short)

    pub does : (c : Command) → executed (w.file name) c ≡ written (outcome s c)
    does c = ap (λ (r : Result State LoadFault). of_loaded r c) loads

    -- ---- the files after a command

    abbrev After : Command → Result Written Fault → World → Type 0
    After c r v = Mirrors (with_written w (record { name = name; command = c }) r) v

    same_file : (other : List ℕ) → cond (same_bytes other name) (project s) (w.file other) ≡ project (replica (world past) other)
    same_file other = by (same_bytes other name) refl
      where
        by : (b : Bool) → same_bytes other name ≡ b → cond b (project s) (w.file other) ≡ project (replica (world past) other)
        by true e = ap (λ (n : List ℕ). project (replica (world past) n)) (sym (same_bytes-is other name e))
        by false e = m.file other

    -- a command that only reports
    pub only_told : (c : Command) (r : Result (List ℕ) Fault) → WritesNone c → After c (written (done_if s r)) (world past)
    only_told c (Err fault) h = m
    only_told c (Ok output) h = record {
      file = same_file;
      bundles = (h output w.bundles).0 ∙ m.bundles;
      summaries = (h output w.summaries).1 ∙ m.summaries;
      told = m.told;
    }

    -- a step of the replica
    pub stepped : (c : Command) (t : State) (r : Result (List ℕ) Fault) → WritesNone c → t.name ≡ name
        → ((fault : Fault) → r ≡ Err fault → t ≡ s) → After c (written (done_if t r)) (with_held (world past) name t.held)
    stepped c t (Err fault) h is same = record {
      file = λ other. put other (same_bytes other name) refl;
      bundles = m.bundles;
      summaries = m.summaries;
      told = m.told;
    }
      where
        put : (other : List ℕ) (b : Bool) → same_bytes other name ≡ b
            → w.file other ≡ project (record { name = other; held = cond b t.held ((world past).held other) })
        put other true e =
            let now : (world past).held other ≡ t.held =
            ap (world past).held (same_bytes-is other name e) ∙ sym (ap (λ (x : State). x.held) (same fault refl)) in
            m.file other ∙ (λ i. project (record { name = other; held = now i }))
        put other false e = m.file other
    stepped c t (Ok output) h is same = record {
      file = λ other. put other (same_bytes other name) refl;
      bundles = (h output w.bundles).0 ∙ m.bundles;
      summaries = (h output w.summaries).1 ∙ m.summaries;
      told = m.told;
    }
      where
        put : (other : List ℕ) (b : Bool) → same_bytes other name ≡ b
            → cond b (project t) (w.file other) ≡ project (record { name = other; held = cond b t.held ((world past).held other) })
        put other true e =
            let own : t.name ≡ other = is ∙ sym (same_bytes-is other name e) in λ i. project (record { name = own i; held = t.held })
        put other false e = m.file other

    -- a bundle that is written
    pub bundled : (c : Command) (kept : Id → Bool) (ops : List Operation)
        → ((output : List ℕ) (xs : List (List ℕ)) → (bundles_with c output xs ≡ output ∷ xs) × (summaries_with c output xs ≡ xs))
        → of_ids kept s.held ≡ ops → is_legal ops ≡ true
        → After c (written (done_if s (Ok (bundle ops)))) (happens (world past) (Bundles name kept))
    bundled c kept ops h e legal =
        let made : After c (written (done_if s (Ok (bundle ops)))) (with_bundle (world past) ops true) = record {
          file = same_file;
          bundles = (h (bundle ops) w.bundles).0 ∙ ap (λ (xs : List (List ℕ)). bundle ops ∷ xs) m.bundles;
          summaries = (h (bundle ops) w.summaries).1 ∙ m.summaries;
          told = m.told;
        } in
        let is : (is_legal (of_ids kept s.held)) ≡ true = ap is_legal e ∙ legal in
        subst (λ (x : List Operation × Bool). After c (written (done_if s (Ok (bundle ops)))) (with_bundle (world past) x.0 x.1))
        (λ i. (sym e i, sym is i)) made

    -- ---- steps

    edited_name : (r : Result Operation EditFault) → (edited s r).after.name ≡ name
    edited_name (Ok o) = refl
    edited_name (Err fault) = refl

    edited_same : (r : Result Operation EditFault) (fault : Fault) → reply_line (edited s r).reply ≡ Err fault → (edited s r).after ≡ s
    edited_same (Ok o) fault e = cc e
    edited_same (Err f) fault e = refl

    imported_name : (r : Result (List Operation) ImportFault) → (imported s r).after.name ≡ name
    imported_name (Ok ops) = refl
    imported_name (Err fault) = refl

    imported_same : (r : Result (List Operation) ImportFault) (fault : Fault) → reply_line (imported s r).reply ≡ Err fault
        → (imported s r).after ≡ s
    imported_same (Ok ops) fault e = cc e
    imported_same (Err f) fault e = refl

    received_name : (ops : List Operation) (c : Option Id) → (steps.received s ops c).after.name ≡ name
    received_name ops None = refl
    received_name ops (Some id) = refl

    received_same : (ops : List Operation) (c : Option Id) (fault : Fault) → reply_line (steps.received s ops c).reply ≡ Err fault
        → (steps.received s ops c).after ≡ s
    received_same ops None fault e = cc e
    received_same ops (Some id) fault e = refl

    takes_in : (c : Command) (file : List ℕ) → WritesNone c
        → After c (written (done (step s (steps.Import file)))) (happens (world past) (Imports name file))
    takes_in c file h =
        let taken = step s (steps.Import file) in
        stepped c taken.after (reply_line taken.reply) h (imported_name (import_ops s file)) (imported_same (import_ops s file))

    -- ---- each command

    pub imports : (file : Bor (List ℕ))
        → After (Import file) (written (outcome s (Import file))) (all_happen (world past) (events_of w (world past) name (Import file)))
    imports file = by (is_utf8 file.now)
      where
        by : (b : Bool)
            → After (Import file)
            (written (cond b (done (step s (steps.Import file.now))) (Err (NotText (utf8_valid_len file.now)))))
            (all_happen (world past) (cond b (Imports name file.now ∷ []) []))
        by true = takes_in (Import file) file.now (λ output xs. (refl, refl))
        by false = m

    pub edits : (book : List ℕ) (key : KeyParts) (text : Bor (List ℕ))
        → After (Edit book key text) (written (outcome s (Edit book key text)))
        (all_happen (world past) (events_of w (world past) name (Edit book key text)))
    edits book key text = by (is_utf8 text.now)
      where
        by : (b : Bool)
            → After (Edit book key text)
            (written (cond b (done (step s (steps.Edit (segment book key) text.now))) (Err (NotText (utf8_valid_len text.now)))))
            (all_happen (world past) (cond b (world_of.Edits name (segment book key) text.now ∷ []) []))
        by true =
            let taken = step s (steps.Edit (segment book key) text.now) in
            stepped (Edit book key text) taken.after (reply_line taken.reply) (λ output xs. (refl, refl))
            (edited_name (edit_op s (segment book key) text.now)) (edited_same (edit_op s (segment book key) text.now))
        by false = m

    pub edits_over : (book : List ℕ) (key : KeyParts) (text : Bor (List ℕ)) (ids : Bor (List Id))
        → After (EditOver book key text ids) (written (outcome s (EditOver book key text ids)))
        (all_happen (world past) (events_of w (world past) name (EditOver book key text ids)))
    edits_over book key text ids = by (is_utf8 text.now)
      where
        by : (b : Bool)
            → After (EditOver book key text ids)
            (written
            (cond b (done (step s (steps.EditOver (segment book key) text.now ids.now))) (Err (NotText (utf8_valid_len text.now)))))
            (all_happen (world past) (cond b (world_of.EditsOver name (segment book key) text.now ids.now ∷ []) []))
        by true =
            let taken = step s (steps.EditOver (segment book key) text.now ids.now) in
            stepped (EditOver book key text ids) taken.after (reply_line taken.reply) (λ output xs. (refl, refl))
            (edited_name (edit_over_op s (segment book key) text.now ids.now))
            (edited_same (edit_over_op s (segment book key) text.now ids.now))
        by false = m

    pub edits_with : (book : List ℕ) (key : KeyParts) (of : Id) (ids : Bor (List Id))
        → After (EditWith book key of ids) (written (outcome s (EditWith book key of ids)))
        (all_happen (world past) (events_of w (world past) name (EditWith book key of ids)))
    edits_with book key of ids = by (text_shown s.held (segment book key) of)
      where
        by : (r : Option (List ℕ))
            → After (EditWith book key of ids) (written (edit_by_text s (segment book key) of ids.now r))
            (all_happen (world past) (copying name (segment book key) ids.now r))
        by None = m
        by (Some text) =
            let taken = step s (steps.EditOver (segment book key) text ids.now) in
            stepped (EditWith book key of ids) taken.after (reply_line taken.reply) (λ output xs. (refl, refl))
            (edited_name (edit_over_op s (segment book key) text ids.now))
            (edited_same (edit_over_op s (segment book key) text ids.now))

    pub thins : After Thin (written (outcome s Thin)) (all_happen (world past) (events_of w (world past) name Thin))
    thins =
        let taken = step s steps.Thin in
        stepped Thin taken.after (reply_line taken.reply) (λ output xs. (refl, refl)) refl (λ fault e. cc e)

    pub sends : After Send (written (outcome s Send)) (all_happen (world past) (events_of w (world past) name Send))
    sends = bundled Send (is_held s.held) s.held (λ output xs. (refl, refl)) (all_ids s.held (sets.held name).rising) (sets.held_legal name)

    pub answers : (given : Bor (List ℕ)) → IsWritten w.summaries given.now
        → After (Delta given) (written (outcome s (Delta given))) (all_happen (world past) (events_of w (world past) name (Delta given)))
    answers given g =
        let r = read_back given.now g in
        let rise = (sets.held name).rising in
        subst (λ (known : Option (List NameRanges)). After (Delta given) (written (done_if s (delta_for s.held known)))
        (all_happen (world past) (answering name s.held known))) (sym r.1)
        (bundled (Delta given) (is_held (outside r.0 s.held)) (outside r.0 s.held) (λ output xs. (refl, refl))
        (lacking_ids s.held r.0 rise) (lacking_legal s.held r.0 rise (sets.held_legal name)))

    pub sums_up : After Summary (written (outcome s Summary)) (all_happen (world past) (events_of w (world past) name Summary))
    sums_up = record {
      file = same_file;
      bundles = m.bundles;
      summaries = ap (λ (xs : List (List ℕ)). summary (summary_of s.held) ∷ xs) m.summaries;
      told = on;
    }
      where
        on : (k : ℕ) (r : List NameRanges) → slice_get (summary_of s.held ∷ (world past).summaries) k ≡ Some r
            → (held : List Operation) × IsOpSet held × (r ≡ summary_of held)
        on zero r e = let is : summary_of s.held ≡ r = cc e in (s.held, sets.held name, sym is)
        on (suc k) r e = m.told k r e

    pub receives : (bytes : Bor (List ℕ)) → IsFrontOf w.bundles bytes.now
        → After (Receive bytes) (written (outcome s (Receive bytes)))
        (all_happen (world past) (events_of w (world past) name (Receive bytes)))
    receives bytes f = by (place_in w.bundles bytes.now) refl
      where
        by : (r : Option ℕ) → place_in w.bundles bytes.now ≡ r
            → After (Receive bytes) (written (commands.with_bundle s (whole_at bytes.now)))
            (all_happen (world past) (receiving name r))
        by None e =
            subst (λ (r : Result (List Operation) WholeFault). After (Receive bytes) (written (commands.with_bundle s r)) (world past))
            (sym (cut_at bytes.now f (is_proper bytes.now f e))) m
        by (Some k) e =
            let x = made_at bytes.now k (place_is w.bundles bytes.now k e) (short_front bytes.now f) in
            let taken = step s (steps.Receive x.ops) in
            subst (λ (r : Result (List Operation) WholeFault). After (Receive bytes) (written (commands.with_bundle s r))
            (received (world past) name (slice_get (world past).bundles k))) (sym x.reads)
            (subst (λ (o : Option (List Operation)). After (Receive bytes) (written (done taken)) (received (world past) name o))
            (sym x.made)
            (stepped (Receive bytes) taken.after (reply_line taken.reply) (λ output xs. (refl, refl))
            (received_name x.ops (clash s.held x.ops)) (received_same x.ops (clash s.held x.ops))))
