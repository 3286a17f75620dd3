-- A bundle of a box that would be refused is passed over.
use Rattle.std.proofs.Common.{◌≡◌, ℕ, Bool, true, false, cond, not, List, Option, None, Some, Result, Ok, Err, ap, sym, ◌∙◌}
use Rattle.op_core.specs.Ids.{Id}
use Rattle.op_core.specs.Ops.{Operation}
use Rattle.op_core.specs.Sets.{clash}
use Rattle.replica_state.specs.States.{State}
use Rattle.book_folder.specs.Begun.{Received, is_strange, judged, received, received_if_alike, received_or, refused_strange}
use Rattle.book_folder.specs.Refusals.{◌>>=◌, Answers, AnswersStep, stepped}
use Rattle.book_folder.specs.Sifting.{answered, any_place, sift_bytes, sift_judged, sift_ops, sift_received}
use Rattle.book_folder.specs.declared.refusal.Place.{Place}
use Rattle.book_folder.specs.declared.refusal.Refusal.{Refusal}
use Rattle.book_folder.specs.declared.refusal.Refusal.TheVariants.{Memory, Of}
use Rattle.book_folder.specs.declared.sifting.Sifted.TheVariants.{Refused}

-- bytes that are no bundle leave the replica as it is
pub not_judged : (asked : Bool) (s : State) (bytes : List ℕ) (refusal : Refusal) → Answers (judged any_place bytes) (Err refusal)
    → AnswersStep (Ok (sift_bytes asked s bytes)) s (answered refusal)
not_judged asked s bytes Memory h = tt
not_judged asked s bytes (Of place fault) h = ap (λ r. Ok (sift_judged asked s r)) h

-- and so does a bundle that is not received
pub not_received : (asked : Bool) (s after : State) (ops : List Operation) (refusal : Refusal) → after ≡ s
    → AnswersStep (received_if_alike asked any_place s ops) after (Err refusal)
    → AnswersStep (Ok (sift_ops asked s ops)) after (answered refusal)
not_received asked s after ops Memory same h = tt
not_received asked s after ops (Of place fault) same h =
    ap (λ r. Ok (sift_received s r)) h ∙ ap (λ x. Ok (stepped x (Refused fault))) (sym same)

-- a bundle of another project is not received
pub strange_is_refused : (place : Place) (s : State) (ops : List Operation) (r : Received) → is_strange s.held ops ≡ true
    → received_if_alike false place s ops ≡ Ok r → ⊥
strange_is_refused place s ops r strange h = by (clash s.held ops) (sym asked ∙ h)
  where
    asked : received_if_alike false place s ops ≡ (received place s ops >>= refused_strange place s)
    asked = ap (λ b. cond (not b) (received place s ops) (received place s ops >>= refused_strange place s)) strange

    by : (found : Option Id) → (received_or place s ops found >>= refused_strange place s) ≡ Ok r → ⊥
    by None e = cc e
    by (Some id) e = cc e

-- so what a copy of the replica answers of it is what the replica would
pub strange_answered : (asked : Bool) (place : Place) (s copy after : State) (ops : List Operation) (answer : Result ℕ Refusal)
    → copy ≡ s → is_strange s.held ops ≡ true → asked ≡ false
    → AnswersStep (received_if_alike asked place copy ops) after answer → AnswersStep (received_if_alike asked place s ops) s answer
strange_answered asked place s copy after ops (Ok made) same strange unasked h =
    absurd (strange_is_refused place s ops (stepped after made) strange
    (ap (λ a. received_if_alike a place s ops) (sym unasked) ∙ ap (λ x. received_if_alike asked place x ops) (sym same) ∙ h))
strange_answered asked place s copy after ops (Err Memory) same strange unasked h = tt
strange_answered asked place s copy after ops (Err (Of at fault)) same strange unasked h =
    ap (λ x. received_if_alike asked place x ops) (sym same) ∙ h
