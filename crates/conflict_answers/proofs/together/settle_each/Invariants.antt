use Rattle.std.proofs.Common.{◌≡◌, drop}
use Rattle.conflict_answers.specs.Answers.{views}
use Rattle.conflict_answers.specs.Together.{settled_on}
use Rattle.conflict_answers.proofs.together.settle_each.Given as goal

abbrev pub invariant-loop-answer : goal.invariant-loop-answer
invariant-loop-answer l =
    settled_on (record { after = l.initial.replica; told = l.initial.told.items; lines = l.initial.text.items }) (views l.answers)
    ≡ settled_on (record { after = l.replica; told = l.told.items; lines = l.text.items }) (views (drop l.answer-index l.answers))
