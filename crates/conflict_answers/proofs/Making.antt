-- What an answer may make.
use Rattle.std.proofs.Common.{◌≡◌, ◌⊎◌, ℕ, true, List, [], ◌∷◌, Option, Some, None, Result, Ok, Err, inl, inr, refl, ap, ◌∙◌}
use Rattle.usfm_ref.specs.declared.segment.Segment.{Segment}
use Rattle.op_core.specs.Ids.{Id}
use Rattle.op_core.specs.NextIds.{given_ids, next_number}
use Rattle.op_core.specs.Ops.{Operation}
use Rattle.replica_state.specs.States.{State}
use Rattle.replica_state.specs.Edits.{edit_with, edit_over_op, has_numbers, own_id}
use Rattle.replica_state.specs.Steps.{with_ops}
use Rattle.replica_state.specs.declared.fault.EditFault.{EditFault}
use Rattle.conflict_answers.specs.Answers.{AnswerParts, Chosen, taken, own, not_now}
use Rattle.conflict_answers.specs.Settling.{chosen_text, settled, settled_as, settled_by, settled_with, shown_text}
use Rattle.conflict_answers.specs.declared.settling.Settled.TheVariants.{Made}
use Rattle.conflict_answers.proofs.Settlings.{IsEdit, is_edit}

-- a replica with an edit over ids more
pub record Makes (s t : State) : Type 0 where
  pub g : Segment
  pub ids : List Id
  pub text : List ℕ
  pub after : t ≡ with_ops s (edit_with (own_id s (next_number s.held)) g (given_ids s.held g ids) text ∷ [])
  pub room : has_numbers s.held 1 ≡ true

pub makes_by : (s : State) (g : Segment) (ids : List Id) (t : List ℕ) (e : Result Operation EditFault) → edit_over_op s g t ids ≡ e
    → ((settled_by s (edit_over_op s g t ids)).after ≡ s) ⊎ Makes s (settled_by s (edit_over_op s g t ids)).after
makes_by s g ids t (Ok o) h =
    let made = is_edit s g t ids o.id (ap (λ r. (settled_by s r).told) h) in
    inr
    (record {
      g = g;
      ids = ids;
      text = t;
      after =
          ap (λ r. (settled_by s r).after) made.edit
          ∙ ap (λ (i : Id). with_ops s (edit_with i g (given_ids s.held g ids) t ∷ [])) made.own;
      room = made.room;
    })
makes_by s g ids t (Err fault) h = inl (ap (λ r. (settled_by s r).after) h)

makes_with : (s : State) (g : Segment) (ids : List Id) (text : Option (List ℕ))
    → ((settled_with s g ids text).after ≡ s) ⊎ Makes s (settled_with s g ids text).after
makes_with s g ids None = inl refl
makes_with s g ids (Some t) = makes_by s g ids t (edit_over_op s g t ids) refl

makes_as : (s : State) (g : Segment) (ids : List Id) (c : Chosen)
    → ((settled_as s g ids c).after ≡ s) ⊎ Makes s (settled_as s g ids c).after
makes_as s g ids (taken x) = makes_with s g ids (shown_text s.held g x)
makes_as s g ids (own t) = makes_with s g ids (Some t)
makes_as s g ids not_now = inl refl

pub makes : (s : State) (a : AnswerParts) → ((settled s a).after ≡ s) ⊎ Makes s (settled s a).after
makes s a = makes_as s a.segment a.ids a.chosen

-- what was made is an edit with the text that was chosen
pub record Told (s : State) (g : Segment) (ids : List Id) (c : Chosen) (id : Id) : Type 0 where
  pub text : List ℕ
  pub chosen : chosen_text s.held g c ≡ Some text
  pub edit : IsEdit s g text ids id

told_with : (s : State) (g : Segment) (ids : List Id) (c : Chosen) (id : Id) (text : Option (List ℕ)) → chosen_text s.held g c ≡ text
    → (settled_with s g ids text).told ≡ Ok (Made id) → Told s g ids c id
told_with s g ids c id None e h = cc
told_with s g ids c id (Some t) e h = record { text = t; chosen = e; edit = is_edit s g t ids id h }

pub told_as : (s : State) (g : Segment) (ids : List Id) (c : Chosen) (id : Id) → (settled_as s g ids c).told ≡ Ok (Made id)
    → Told s g ids c id
told_as s g ids (taken x) id h = told_with s g ids (taken x) id (shown_text s.held g x) refl h
told_as s g ids (own t) id h = told_with s g ids (own t) id (Some t) refl h
told_as s g ids not_now id h = cc
