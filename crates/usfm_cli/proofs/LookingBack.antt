-- What is told of what was in a project, and of texts that are had back.
use Rattle.std.proofs.Common.{◌≡◌, ℕ, Bool, true, false, List, None, Result, Ok, Err, Vec, refl, sym, ap, subst, ◌∙◌}
use Rattle.std.proofs.lemmas.Bool.{cond-true, cond-false}
use Rattle.op_core.specs.Ids.{Id}
use Rattle.op_core.specs.Ops.{Operation}
use Rattle.bundle_codec.specs.Summaries.{NameRanges, covers}
use Rattle.usfm_ref.specs.declared.segment.Segment.{Segment}
use Rattle.replica_state.specs.States.{State}
use Rattle.project_file.specs.Answers.{RefusesLoad}
use Rattle.project_file.specs.Projects.{project_at}
use Rattle.project_file.specs.declared.fault.LoadFault.{LoadFault}
use Rattle.project_file.specs.declared.fault.LoadFault.TheVariants as loading
use Rattle.segment_history.specs.ChangeLines.{changes_text}
use Rattle.segment_history.specs.Naming.{has_books, named_segments, changes_in}
use Rattle.segment_history.specs.Restores as restores
use Rattle.segment_history.specs.Restores.{RestoredParts}
use Rattle.segment_history.specs.Loops.Restoring.{IsLost}
use Rattle.segment_history.specs.declared.fault.RestoreFault.{RestoreFault}
use Rattle.segment_history.specs.declared.fault.RestoreFault.TheVariants as restoring
use Rattle.segment_history.specs.declared.named.Named.{Named}
use Rattle.usfm_cli.specs.Commands.{MayWantMemory, Gives, is_late_in}
use Rattle.usfm_cli.specs.Copies.{known_of, Tells}
use Rattle.command_faults.specs.Faults.{of_loading, of_restoring}
use Rattle.usfm_cli.specs.Histories.{is_like_project, ids_of_project, covered_by, is_out_of_memory, changes_since, changes_of, of_project, AnswersOf}
use Rattle.usfm_cli.specs.OverBooks.{AnswersProject}
use Rattle.usfm_cli.specs.Restorings.{unless_refused, unless_left_out, restored_id, restored_by, restored_since}
use Rattle.usfm_cli.specs.Turns.{is_memory}
use Rattle.command_faults.specs.declared.fault.Fault.{Fault}
use Rattle.command_faults.specs.declared.fault.Fault.TheVariants.{Memory}
use Rattle.usfm_cli.proofs.InTurn.{exact_fault}
use Rattle.usfm_cli.proofs.OverBooks.{whole_given}

-- ---- what is given of all that a project holds

pub held_given : (A : Type 0) (bytes : List ℕ) (s : State) (late : Fault → Bool) (reported : List Operation → Result (List ℕ) Fault)
    (result : Result (Vec ℕ A) Fault) → project_at bytes ≡ Ok s → Gives late (reported s.held) result
    → AnswersProject bytes reported result
held_given A bytes s late reported result loads gives =
    whole_given A bytes s late reported result (record { whole = s; loads = loads; seen_is = refl }) gives

-- where out of memory is answered, it may be
pub held_wants : (A : Type 0) (bytes : List ℕ) (s t : State) (late : Fault → Bool)
    (reported : List Operation → Result (List ℕ) Fault) (result : Result (Vec ℕ A) Fault) → project_at bytes ≡ Ok s
    → Gives late (reported s.held) result → result ≡ Err Memory → project_at bytes ≡ Ok t → MayWantMemory late (reported t.held)
held_wants A bytes s t late reported result loads gives none again =
    let wants : MayWantMemory late (reported s.held) = subst (Gives {A = A} late (reported s.held)) none gives in
    let same : s ≡ t = cc (sym loads ∙ again) in
    subst (λ (u : State). MayWantMemory late (reported u.held)) same wants

-- a project that is not read is refused for that
pub not_given : {X : Type 0} (bytes : List ℕ) (given : List Operation → Result X Fault) (fault : LoadFault) → RefusesLoad bytes fault
    → AnswersOf bytes given (Err (of_loading fault))
not_given bytes given loading.Memory refused other = cc other
not_given bytes given loading.BadProject refused other = ap (λ r. of_project r given) refused
not_given bytes given (loading.Bundle fault) refused other = ap (λ r. of_project r given) refused

-- of one that is read, what is answered of what it holds
pub held_answers : {X : Type 0} (bytes : List ℕ) (s : State) (held : List Operation) (given : List Operation → Result X Fault)
    (result : Result X Fault) → project_at bytes ≡ Ok s → held ≡ s.held → (is_out_of_memory result ≡ false → given held ≡ result)
    → AnswersOf bytes given result
held_answers bytes s held given result loads is answers other =
    ap (λ r. of_project r given) loads ∙ ap given (sym is) ∙ answers other

-- ---- the ids that a file covers

pub project_covers : (bytes : List ℕ) (r : Result State LoadFault) → is_like_project bytes ≡ true → project_at bytes ≡ r
    → covered_by bytes ≡ ids_of_project r
project_covers bytes r begins is = cond-true _ _ _ begins ∙ ap ids_of_project is

pub project_refused : (bytes : List ℕ) (fault : LoadFault) → is_like_project bytes ≡ true → RefusesLoad bytes fault
    → is_memory (of_loading fault) ≡ false → covered_by bytes ≡ Err (of_loading fault)
project_refused bytes loading.Memory begins refused other = cc other
project_refused bytes loading.BadProject begins refused other = project_covers bytes (Err loading.BadProject) begins refused
project_refused bytes (loading.Bundle fault) begins refused other = project_covers bytes (Err (loading.Bundle fault)) begins refused

-- a summary or a bundle covers what it tells
pub known_covers : (bytes : List ℕ) → is_like_project bytes ≡ false → (result : Result (List NameRanges) Fault) → Tells bytes result
    → is_out_of_memory result ≡ false → covered_by bytes ≡ result
known_covers bytes begins (Ok known) tells other = cond-false _ _ _ begins ∙ tells
known_covers bytes begins (Err fault) tells other =
    cond-false _ _ _ begins ∙ exact_fault (is_late_in bytes) (known_of bytes) fault other tells

-- ---- what changed

module _ (since : List ℕ) (names : List Named) (texts : Bool) (held : List Operation) (has : has_books held names ≡ true) where
  pub changes_unknown : (fault : Fault) → covered_by since ≡ Err fault → changes_of since names texts held ≡ Err fault
  changes_unknown fault e = cond-true _ _ _ has ∙ ap (λ r. changes_since held r names texts) e

  pub changes_told : (known : List NameRanges) (lines : List ℕ) → covered_by since ≡ Ok known
      → lines ≡ changes_text texts (changes_in held (covers known) names) → changes_of since names texts held ≡ Ok lines
  changes_told known lines e is = cond-true _ _ _ has ∙ ap (λ r. changes_since held r names texts) e ∙ ap Ok (sym is)

-- ---- texts that are had back

module _ (id : Id) (held : List Operation) where
  pub restored_told : (edits : List RestoredParts) → edits ≡ restores.restored_id held id → restores.refusal_at held id ≡ None
      → restored_id id held ≡ Ok edits
  restored_told edits is there = λ i. unless_refused (there i) (sym is i)

  pub restored_refused : (fault : RestoreFault) → restores.RefusedFor (restores.refusal_at held id) fault
      → is_memory (of_restoring fault) ≡ false → restored_id id held ≡ Err (of_restoring fault)
  restored_refused restoring.Memory refused other = cc other
  restored_refused (restoring.NotHeld of) refused other = ap (λ r. unless_refused r (restores.restored_id held id)) refused
  restored_refused (restoring.LeftOut of) refused other = ap (λ r. unless_refused r (restores.restored_id held id)) refused

module _ (since : List ℕ) (names : List Named) (held : List Operation) (has : has_books held names ≡ true) where
  pub since_unknown : (fault : Fault) → covered_by since ≡ Err fault → restored_since since names held ≡ Err fault
  since_unknown fault e = cond-true _ _ _ has ∙ ap (λ r. restored_by held r names) e

  module _ (known : List NameRanges) (covered : covered_by since ≡ Ok known) (segments : List Segment)
      (named : segments ≡ named_segments held names) where
    since_known : restored_since since names held
        ≡ unless_left_out (restores.first_left_out held (covers known) segments) (restores.restored_since held (covers known) segments)
    since_known =
        cond-true _ _ _ has ∙ ap (λ r. restored_by held r names) covered
        ∙ (λ i. unless_left_out (restores.first_left_out held (covers known) (sym named i))
        (restores.restored_since held (covers known) (sym named i)))

    pub since_told : (edits : List RestoredParts) → edits ≡ restores.restored_since held (covers known) segments
        → restores.first_left_out held (covers known) segments ≡ None → restored_since since names held ≡ Ok edits
    since_told edits is there = since_known ∙ (λ i. unless_left_out (there i) (sym is i))

    pub since_refused : (fault : RestoreFault) → IsLost (restores.first_left_out held (covers known) segments) fault
        → is_memory (of_restoring fault) ≡ false → restored_since since names held ≡ Err (of_restoring fault)
    since_refused restoring.Memory lost other = cc other
    since_refused (restoring.NotHeld id) lost other = absurd lost
    since_refused (restoring.LeftOut id) lost other =
        since_known ∙ ap (λ l. unless_left_out l (restores.restored_since held (covers known) segments)) lost
