-- Laws of answers that travel (this project's own rule).
use Rattle.std.specs.Prelude.{◌≡◌, ◌≢◌, ◌≤◌, true, List, [], ◌∷◌, length, Ok}
use Rattle.std.specs.List.{AllByRecursion, Contains}
use Rattle.op_core.specs.Ids.{Id}
use Rattle.op_core.specs.Lists.{is_held}
use Rattle.op_core.specs.NextIds.{is_among}
use Rattle.op_core.specs.Ops.{Operation}
use Rattle.replica_state.specs.States.{State, IsState}
use Rattle.replica_state.specs.Steps.{with_ops}
use Rattle.conflict_answers.specs.Answers.{AnswerParts, AreAnswers}
use Rattle.conflict_answers.specs.Settling.{chosen_text, settled, settled_all}
use Rattle.conflict_answers.specs.Together.{Ended, settled_together}
use Rattle.conflict_answers.specs.declared.settling.Settled.TheVariants.{Made, Left}

-- What is made is one operation of the answer's segment, with its text, which names the ids of its
-- line, and no others.
pub record IsMadeOf (s : State) (a : AnswerParts) (id : Id) : Type 0 where
  pub op : Operation
  pub after : (settled s a).after ≡ with_ops s (op ∷ [])
  pub made : op.id ≡ id
  pub segment : op.segment ≡ a.segment
  pub text : op.text ≡ chosen_text s.held a.segment a.chosen
  pub named : (q : Id) → is_among op.replaced q ≡ is_among a.ids q

-- What answers make that are settled together is what they make one after another.
abbrev pub TogetherIsOneAfterAnother : Type 0
TogetherIsOneAfterAnother =
    (s : State) (answers : List AnswerParts) (made : Ended) → settled_together s answers ≡ Ok made →
    made.after ≡ settled_all s answers

-- an edit that is made names only ids that stood on the page, in their segment
abbrev pub OnlyWhatStoodOnThePage : Type 0
OnlyWhatStoodOnThePage =
    (s : State) (a : AnswerParts) (id : Id) → (settled s a).told ≡ Ok (Made id) → IsMadeOf s a id

-- one state holds what another one holds
abbrev pub HoldsAllOf : State → State → Type 0
HoldsAllOf later earlier = (o : Operation) → Contains earlier.held o → Contains later.held o

-- An answer of which an edit was made makes nothing any more, whatever came in since.
abbrev pub MadeIsMadeOnce : Type 0
MadeIsMadeOnce =
    (s later : State) (a : AnswerParts) (id : Id) → IsState s → 1 ≤ length a.ids →
    (settled s a).told ≡ Ok (Made id) → HoldsAllOf later (settled s a).after →
    (settled later a).told ≡ Ok Left

-- an answer makes no edit
abbrev pub MakesNothing : State → AnswerParts → Type 0
MakesNothing s a = (id : Id) → (settled s a).told ≢ Ok (Made id)

-- Of the ids of an answer's line the replica holds those of its own name, as it does where no such
-- id was made up.
abbrev pub HoldsOwn : State → AnswerParts → Type 0
HoldsOwn s a = (q : Id) → is_among a.ids q ≡ true → q.name ≡ s.name → is_held s.held q ≡ true

-- The same answers a second time make nothing: each is left, or not answered yet, and the replica
-- is as it was.
abbrev pub TwiceIsOnce : Type 0
TwiceIsOnce =
    (s : State) (answers : List AnswerParts) → IsState s → AreAnswers answers →
    AllByRecursion (HoldsOwn s) answers →
    AllByRecursion (MakesNothing (settled_all s answers)) answers
    × (settled_all (settled_all s answers) answers ≡ settled_all s answers)
