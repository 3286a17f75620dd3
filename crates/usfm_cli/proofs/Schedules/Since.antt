-- Files under an import since a base, and a world under the receiving and the edits that it is.
use Rattle.std.proofs.Common.{Bor, ◌≡◌, ◌<◌, ◌^◌, ℕ, Bool, true, false, cond, List, [], ◌∷◌, map, length}
use Rattle.std.proofs.Common.{Option, None, Some, Result, Ok, Err, IsTrue, refl, sym, ap, subst, ◌∙◌}
use Rattle.std.specs.Prelude.{slice_get}
use Rattle.std.specs.List.{AllByRecursion}
use Rattle.std.specs.Str.{is_utf8}
use Rattle.std.specs.Str.Lossy.{utf8_valid_len}
use Rattle.std.proofs.lemmas.Bool.{cond-false}
use Rattle.usfm_ref.specs.Books.{same_bytes}
use Rattle.usfm_ref.specs.Segments.{segment}
use Rattle.usfm_ref.proofs.Orders.{same_bytes-is}
use Rattle.verse_cut.specs.declared.fault.BookFault.{BookFault}
use Rattle.verse_cut.specs.Pieces.{pieces_of}
use Rattle.verse_cut.specs.Reading.{book_in}
use Rattle.op_core.specs.Names.{is_name}
use Rattle.op_core.specs.Ids.{Id}
use Rattle.op_core.specs.Ops.{Operation}
use Rattle.op_core.specs.Sets.{IsOpSet, clash}
use Rattle.bundle_codec.specs.declared.fault.WholeFault.{WholeFault}
use Rattle.bundle_codec.specs.Joining.{whole_at}
use Rattle.bundle_codec.specs.Spelling.{bundle}
use Rattle.bundle_codec.specs.Summaries.{NameRanges, summary}
use Rattle.replica_state.specs.declared.fault.SinceFault.{SinceFault}
use Rattle.replica_state.specs.declared.fault.SinceFault.TheVariants.{NumbersUsedUp}
use Rattle.replica_state.specs.States.{State}
use Rattle.replica_state.specs.Changes.{ChangeParts, edits_or}
use Rattle.replica_state.specs.Steps as steps
use Rattle.replica_state.specs.Steps.{edited_all, with_ops}
use Rattle.replica_state.specs.Since.{since_changes, changed_after, changed_in, imported_since}
use Rattle.replica_state.specs.World as world_of
use Rattle.replica_state.specs.World.{World, Event, IsWithin, world, replica, with_held, received}
use Rattle.replica_state.specs.World.Calls.{IsIn, edits_of, since_events, all_happen}
use Rattle.replica_state.proofs.World.SinceEvents.{importing}
use Rattle.project_file.specs.Projects.{project}
use Rattle.usfm_cli.specs.Commands.{done_if, told_since, done_since, with_base, outcome}
use Rattle.usfm_cli.specs.Projects.{Written, written}
use Rattle.usfm_cli.specs.Schedules.{Files, IsWritten, with_written}
use Rattle.usfm_cli.specs.declared.command.Command.TheVariants.{ImportSince}
use Rattle.command_faults.specs.declared.fault.Fault.{Fault}
use Rattle.command_faults.specs.declared.fault.Fault.TheVariants.{NotText}
use Rattle.usfm_cli.proofs.Schedules.Places.{place_in, place_is, place_there}
use Rattle.usfm_cli.proofs.Schedules.Events.{since_if, since_at, importing as importing_events, events_of}
use Rattle.usfm_cli.proofs.Schedules.Mirrors.{Mirrors, made_at, sets, state}

-- a world that keeps what was sent, and what each replica but one holds
record Keeps (name : List ℕ) (v u : World) : Type 0 where
  others : (other : List ℕ) → same_bytes other name ≡ false → u.held other ≡ v.held other
  bundles : u.bundles ≡ v.bundles
  summaries : u.summaries ≡ v.summaries

steps_keep : (name : List ℕ) (v : World) (ops : List Operation) → Keeps name v (with_held v name ops)
steps_keep name v ops = record {
  others = λ other e. cond-false (same_bytes other name) ops (v.held other) e;
  bundles = refl;
  summaries = refl;
}

keeps_both : (name : List ℕ) (v u t : World) → Keeps name v u → Keeps name u t → Keeps name v t
keeps_both name v u t a b = record {
  others = λ other e. b.others other e ∙ a.others other e;
  bundles = b.bundles ∙ a.bundles;
  summaries = b.summaries ∙ a.summaries;
}

edits_keep : (name book : List ℕ) (changes : List ChangeParts) (v : World) → Keeps name v (all_happen v (edits_of name book changes))
edits_keep name book [] v = record { others = λ other e. refl; bundles = refl; summaries = refl }
edits_keep name book (c ∷ changes) v =
    let u = world_of.steps v name (steps.EditOver (segment book c.key) c.text c.ids) in
    keeps_both name v u (all_happen u (edits_of name book changes)) (steps_keep name v _) (edits_keep name book changes u)

receiving_keeps : (name : List ℕ) (v : World) (o : Option (List Operation)) → Keeps name v (received v name o)
receiving_keeps name v None = record { others = λ other e. refl; bundles = refl; summaries = refl }
receiving_keeps name v (Some ops) = steps_keep name v _

since_keeps : (s : State) (k : ℕ) (base : List Operation) (book file : List ℕ) (v : World)
    → Keeps s.name v (all_happen v (since_events s k base book (pieces_of file)))
since_keeps s k base book file v =
    let u = received v s.name (slice_get v.bundles k) in
    let changes = since_changes (with_ops s base).held base book (pieces_of file) in
    keeps_both s.name v u (all_happen u (edits_of s.name book changes)) (receiving_keeps s.name v (slice_get v.bundles k))
    (edits_keep s.name book changes u)

-- the replica keeps its name
all_name : {F : Type 0} (before u : State) (name : List ℕ) (r : Result (List Operation) F) → before.name ≡ name → u.name ≡ name
    → (edited_all before u r).after.name ≡ name
all_name before u name (Ok ops) e f = f
all_name before u name (Err fault) e f = e

since_name : (s : State) (base : List Operation) (book file : List ℕ) → book_in file ≡ Ok book
    → (imported_since s base file).after.name ≡ s.name
since_name s base book file begins =
    ap (λ (b : Result (List ℕ) BookFault). (changed_in s base (pieces_of file) b).after.name) begins ∙ by (clash s.held base)
  where
    by : (c : Option Id) → (changed_after s base book (pieces_of file) c).after.name ≡ s.name
    by (Some id) = refl
    by None =
        let u = with_ops s base in
        all_name s u s.name (edits_or NumbersUsedUp u book (since_changes u.held base book (pieces_of file))) refl refl

module _ (w : Files) (past : List Event) (within : AllByRecursion IsWithin past) (m : Mirrors w (world past))
    (name : List ℕ) (named : IsTrue (is_name name)) (short : length (w.file name) < 2 ^ 64) (file base : Bor (List ℕ)) where
  abbrev s : State
  s = replica (world past) name

  abbrev After : Result Written Fault → World → Type 0
  After r v = Mirrors (with_written w (record { name = name; command = ImportSince file base }) r) v

  -- where it is not refused
  made_since : (k count : ℕ) (ops : List Operation) (book : List ℕ) → IsOpSet ops → slice_get (world past).bundles k ≡ Some ops
      → book_in file.now ≡ Ok book → (imported_since s ops file.now).answer ≡ Ok count
      → After (written (done_if (imported_since s ops file.now).after (told_since (Ok count))))
      (all_happen (world past) (since_events s k ops book (pieces_of file.now)))
  made_since k count ops book set made begins answered = record {
    file = λ other. put other (same_bytes other name) refl;
    bundles = m.bundles ∙ ap (map bundle) (sym keeps.bundles);
    summaries = m.summaries ∙ ap (map summary) (sym keeps.summaries);
    told = λ j r e. m.told j r (ap (λ (xs : List (List NameRanges)). slice_get xs j) (sym keeps.summaries) ∙ e);
  }
    where
      t : State
      t = (imported_since s ops file.now).after

      v : World
      v = all_happen (world past) (since_events s k ops book (pieces_of file.now))

      keeps : Keeps name (world past) v
      keeps = since_keeps s k ops book file.now (world past)

      is : IsIn v t
      is = importing s ops file.now (state w past within m name named short) set t (Ok count)
          (λ other i. record { after = t; answer = answered i }) (world past) k book refl made begins

      put : (other : List ℕ) (b : Bool) → same_bytes other name ≡ b → cond b (project t) (w.file other) ≡ project (replica v other)
      put other true e =
          let own : t.name ≡ other = since_name s ops book file.now begins ∙ sym (same_bytes-is other name e) in
          sym (ap project is) ∙ ap (λ (n : List ℕ). project (replica v n)) own
      put other false e = m.file other ∙ (λ i. project (record { name = other; held = sym (keeps.others other e) i }))

  by_answer : (k : ℕ) (ops : List Operation) → IsOpSet ops → slice_get (world past).bundles k ≡ Some ops → (r : Result ℕ SinceFault)
      → (imported_since s ops file.now).answer ≡ r → (b : Result (List ℕ) BookFault) → book_in file.now ≡ b
      → After (written (done_if (imported_since s ops file.now).after (told_since r)))
      (all_happen (world past) (since_if s k ops file.now r b))
  by_answer k ops set made (Err fault) e b f = m
  by_answer k ops set made (Ok count) e (Err fault) f =
      cc (sym (ap (λ (b : Result (List ℕ) BookFault). (changed_in s ops (pieces_of file.now) b).answer) f) ∙ e)
  by_answer k ops set made (Ok count) e (Ok book) f = made_since k count ops book set made f e

  pub imports_since : IsWritten w.bundles base.now
      → After (written (outcome s (ImportSince file base)))
      (all_happen (world past) (events_of w (world past) name (ImportSince file base)))
  imports_since g = by (is_utf8 file.now)
    where
      by : (b : Bool)
          → After (written (cond b (with_base s file.now (whole_at base.now)) (Err (NotText (utf8_valid_len file.now)))))
          (all_happen (world past) (cond b (importing_events (world past) name file.now (place_in w.bundles base.now)) []))
      by false = m
      by true =
          let p = place_there w.bundles base.now g.place g.is in
          let x = made_at w past within m base.now p.0 (place_is w.bundles base.now p.0 p.1) g.short in
          let set = (sets w past within m).bundles p.0 x.ops x.made in
          subst (λ (r : Option ℕ). After (written (with_base s file.now (whole_at base.now)))
          (all_happen (world past) (importing_events (world past) name file.now r))) (sym p.1)
          (subst (λ (r : Result (List Operation) WholeFault). After (written (with_base s file.now r))
          (all_happen (world past) (since_at s p.0 file.now (slice_get (world past).bundles p.0)))) (sym x.reads)
          (subst (λ (o : Option (List Operation)). After (written (done_since (imported_since s x.ops file.now)))
          (all_happen (world past) (since_at s p.0 file.now o))) (sym x.made)
          (by_answer p.0 x.ops set x.made (imported_since s x.ops file.now).answer refl (book_in file.now) refl)))
