-- Changes, and an import since a base, as events of a world.
use Rattle.std.proofs.Common.{◌≡◌, ◌≢◌, ℕ, List, [], ◌∷◌, length, Option, Some, None, Result, Ok, Err, refl, sym, ap, subst, ◌∙◌, IfOk, OnOk}
use Rattle.std.proofs.lemmas.List.{length-map}
use Rattle.usfm_ref.specs.Segments.{segment}
use Rattle.verse_cut.specs.Pieces.{pieces_of}
use Rattle.verse_cut.specs.declared.fault.BookFault.{BookFault}
use Rattle.op_core.specs.Ids.{Id}
use Rattle.op_core.specs.Ops.{Operation}
use Rattle.op_core.specs.Sets.{IsOpSet, clash}
use Rattle.replica_state.specs.declared.fault.EditFault.{EditFault}
use Rattle.replica_state.specs.declared.fault.EditFault.TheVariants as editing
use Rattle.replica_state.specs.declared.fault.SinceFault.{SinceFault}
use Rattle.replica_state.specs.declared.fault.SinceFault.TheVariants.{Memory, NumbersUsedUp}
use Rattle.replica_state.specs.States.{State, IsState}
use Rattle.replica_state.specs.Edits.{edit_over_op, first_number, unless}
use Rattle.replica_state.specs.declared.change.Change.{Change}
use Rattle.replica_state.specs.Changes.{ChangeParts, change_view, changes_view, edits_from, edits_by, edits_or, first_fault, changes_ops}
use Rattle.replica_state.specs.ChangeLaws.{edits_over}
use Rattle.replica_state.specs.Steps.{Command, Receive, EditOver, EditsStep, received, edited, edited_all, step, with_ops}
use Rattle.replica_state.specs.Runs.{after_all}
use Rattle.replica_state.specs.Since.{SinceStep, since_changes, changed_after, changed_in, imported_since}
use Rattle.replica_state.specs.World as world
use Rattle.replica_state.specs.World.{World, replica, steps, with_held}
use Rattle.replica_state.specs.World.Calls.{IsIn, AreChanges, IsImportingSince, CountsChanges, edits_of, all_happen}
use Rattle.replica_state.proofs.Changes.{edits_count}
use Rattle.replica_state.proofs.ChangeRuns.{changes_are_edits}
use Rattle.replica_state.proofs.SinceBegun.{is_receiving_and_edits}
use Rattle.replica_state.proofs.World.Moves.{held_same}

-- a step leaves a replica its name
name_edited : (s : State) (r : Result Operation EditFault) → (edited s r).after.name ≡ s.name
name_edited s (Ok o) = refl
name_edited s (Err fault) = refl

name_received : (s : State) (bundle : List Operation) (c : Option Id) → (received s bundle c).after.name ≡ s.name
name_received s bundle None = refl
name_received s bundle (Some id) = refl

-- where a replica stands, it stands after its step
stands : (w : World) (s : State) (c : Command) → (step s c).after.name ≡ s.name → IsIn w s → IsIn (steps w s.name c) (step s c).after
stands w s c named is =
    let ops = (step (replica w s.name) c).after.held in
    let held : (with_held w s.name ops).held (step s c).after.name ≡ (step s c).after.held =
    ap (with_held w s.name ops).held named ∙ held_same w s.name ops ∙ ap (λ (x : State). (step x c).after.held) is in
    λ i. record { name = (step s c).after.name; held = held i }

edits_happen : (book : List ℕ) (changes : List ChangeParts) (w : World) (s : State) → IsIn w s
    → IsIn (all_happen w (edits_of s.name book changes)) (after_all s (edits_over book changes))
edits_happen book [] w s is = is
edits_happen book (c ∷ changes) w s is =
    let edit : Command = EditOver (segment book c.key) c.text c.ids in
    let u : State = (step s edit).after in
    let named : u.name ≡ s.name = name_edited s (edit_over_op s (segment book c.key) c.text c.ids) in
    subst (λ (n : List ℕ). IsIn (all_happen (steps w s.name edit) (edits_of n book changes)) (after_all u (edits_over book changes))) named
    (edits_happen book changes (steps w s.name edit) u (stands w s edit named is))

pub changing : (s t : State) (book : List ℕ) (changes : List ChangeParts) (r : Result ℕ EditFault) → IsState s
    → (r ≢ Err editing.Memory → edited_all s s (changes_ops s book changes) ≡ record { after = t; answer = r })
    → OnOk r (AreChanges book changes s t)
changing s t book changes (Err fault) state h = tt
changing s t book changes (Ok count) state h = by (changes_ops s book changes) refl (h (λ e. cc e))
  where
    by : (r : Result (List Operation) EditFault) → changes_ops s book changes ≡ r
        → edited_all s s r ≡ record { after = t; answer = Ok count } → AreChanges book changes s t
    by (Err fault) e g = cc (ap (λ (x : EditsStep EditFault). x.answer) g)
    by (Ok ops) e g = λ w is rise begun. subst (IsIn (all_happen w (edits_of s.name book changes)))
        ((changes_are_edits s book changes ops state rise begun e).1 ∙ ap (λ (x : EditsStep EditFault). x.after) g)
        (edits_happen book changes w s is)

-- edits that are made are as many as their changes
counted : {F : Type 0} (full : F) (before s : State) (n : Option ℕ) (book : List ℕ) (changes : List ChangeParts) (count : ℕ)
    → (edited_all before s (edits_by full n s book changes)).answer ≡ Ok count → count ≡ length changes
counted full before s None book changes count e = cc e
counted full before s (Some n) book changes count e =
    let made : length (edits_from n s book changes) ≡ count = cc e in sym made ∙ edits_count s book n changes

pub change_counts : (s t : State) (book : List ℕ) (changes : List Change) (r : Result ℕ EditFault)
    → (r ≢ Err editing.Memory → edited_all s s (changes_ops s book (changes_view changes)) ≡ record { after = t; answer = r })
    → IfOk r (λ count. count ≡ length changes)
change_counts s t book changes (Err fault) h = tt
change_counts s t book changes (Ok count) h =
    by (first_fault s.held book (changes_view changes)) (ap (λ (x : EditsStep EditFault). x.answer) (h (λ e. cc e)))
    ∙ length-map changes change_view
  where
    by : (f : Option EditFault)
        → (edited_all s s (unless f (edits_or editing.NumbersUsedUp s book (changes_view changes)))).answer ≡ Ok count
        → count ≡ length (changes_view changes)
    by (Some fault) e = cc e
    by None e =
        counted editing.NumbersUsedUp s s (first_number s.held (length (changes_view changes))) book (changes_view changes) count e

module _ (s : State) (base : List Operation) (file : List ℕ) where
  since_counts : (count : ℕ) → (imported_since s base file).answer ≡ Ok count → CountsChanges base file s count
  since_counts count answered book named = by (clash s.held base)
      (ap (λ (b : Result (List ℕ) BookFault). (changed_in s base (pieces_of file) b).answer) (sym named) ∙ answered)
    where
      by : (c : Option Id) → (changed_after s base book (pieces_of file) c).answer ≡ Ok count
          → count ≡ length (since_changes (with_ops s base).held base book (pieces_of file))
      by (Some id) e = cc e
      by None e =
          let u = with_ops s base in
          let changes = since_changes u.held base book (pieces_of file) in
          counted NumbersUsedUp s u (first_number u.held (length changes)) book changes count e

  pub import_counts : (t : State) (r : Result ℕ SinceFault)
      → (r ≢ Err Memory → imported_since s base file ≡ record { after = t; answer = r }) → IfOk r (CountsChanges base file s)
  import_counts t (Err fault) h = tt
  import_counts t (Ok count) h = since_counts count (ap (λ (x : SinceStep). x.answer) (h (λ e. cc e)))

module _ (s : State) (base : List Operation) (file : List ℕ) (state : IsState s) (set : IsOpSet base) where
  import_happens : (count : ℕ) → (imported_since s base file).answer ≡ Ok count
      → IsImportingSince base file s (imported_since s base file).after
  import_happens count answered w k book is made named =
      let pieces = pieces_of file in
      let t : State = with_ops s base in
      let changes = since_changes t.held base book pieces in
      let c : Command = Receive base in
      let u : State = (step s c).after in
      let name : u.name ≡ s.name = name_received s base (clash s.held base) in
      let first : World = steps w s.name c in
      let done : IsIn (all_happen first (edits_of s.name book changes)) (after_all u (edits_over book changes)) =
      subst (λ (n : List ℕ). IsIn (all_happen first (edits_of n book changes)) (after_all u (edits_over book changes)))
      name (edits_happen book changes first u (stands w s c name is)) in
      subst (λ (r : Option (List Operation)). IsIn (all_happen (world.received w s.name r) (edits_of s.name book changes))
      (imported_since s base file).after) (sym made)
      (subst (λ (x : State). IsIn (all_happen first (edits_of s.name book changes)) x)
      (is_receiving_and_edits s base file book count state set named answered).1 done)

  pub importing : (t : State) (r : Result ℕ SinceFault) → (r ≢ Err Memory → imported_since s base file ≡ record { after = t; answer = r })
      → OnOk r (IsImportingSince base file s t)
  importing t (Err fault) h = tt
  importing t (Ok count) h =
      let is : imported_since s base file ≡ record { after = t; answer = Ok count } = h (λ e. cc e) in
      subst (IsImportingSince base file s) (ap (λ (x : SinceStep). x.after) is)
      (import_happens count (ap (λ (x : SinceStep). x.answer) is))
