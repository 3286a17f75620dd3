-- Answers that make no edit change nothing.
use Rattle.std.proofs.Common.{◌≡◌, ◌≢◌, ℕ, List, [], ◌∷◌, Option, None, Some, Result, Ok, Err, refl, ap, ◌∙◌}
use Rattle.std.specs.List.{AllByRecursion}
use Rattle.usfm_ref.specs.declared.segment.Segment.{Segment}
use Rattle.op_core.specs.Ids.{Id}
use Rattle.op_core.specs.Ops.{Operation}
use Rattle.replica_state.specs.States.{State}
use Rattle.replica_state.specs.Edits.{edit_over_op}
use Rattle.replica_state.specs.declared.fault.EditFault.{EditFault}
use Rattle.conflict_answers.specs.Answers.{AnswerParts, Chosen, taken, own, not_now}
use Rattle.conflict_answers.specs.Laws.{MakesNothing}
use Rattle.conflict_answers.specs.Settling.{settled_all, settled_as, settled_by, settled_with, shown_text}
use Rattle.conflict_answers.specs.declared.settling.Settled.TheVariants.{Made}

idle_by : (t : State) (e : Result Operation EditFault) → ((id : Id) → (settled_by t e).told ≢ Ok (Made id)) → (settled_by t e).after ≡ t
idle_by t (Ok o) h = absurd (h o.id refl)
idle_by t (Err fault) h = refl

idle_with : (t : State) (g : Segment) (ids : List Id) (text : Option (List ℕ))
    → ((id : Id) → (settled_with t g ids text).told ≢ Ok (Made id)) → (settled_with t g ids text).after ≡ t
idle_with t g ids None h = refl
idle_with t g ids (Some text) h = idle_by t (edit_over_op t g text ids) h

idle_as : (t : State) (g : Segment) (ids : List Id) (c : Chosen) → ((id : Id) → (settled_as t g ids c).told ≢ Ok (Made id))
    → (settled_as t g ids c).after ≡ t
idle_as t g ids (taken x) h = idle_with t g ids (shown_text t.held g x) h
idle_as t g ids (own text) h = idle_with t g ids (Some text) h
idle_as t g ids not_now h = refl

pub idle_all : (t : State) (answers : List AnswerParts) → AllByRecursion (MakesNothing t) answers → settled_all t answers ≡ t
idle_all t [] all = refl
idle_all t (a ∷ answers) all =
    ap (λ (x : State). settled_all x answers) (idle_as t a.segment a.ids a.chosen all.0) ∙ idle_all t answers all.1
