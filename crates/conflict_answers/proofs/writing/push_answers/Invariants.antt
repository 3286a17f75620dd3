use Rattle.std.proofs.Common.{◌≡◌, ◌++◌, take}
use Rattle.std.specs.List.{flat_map}
use Rattle.conflict_answers.specs.Answers.{view}
use Rattle.conflict_answers.specs.Spelling.{answer_lines}
use Rattle.conflict_answers.proofs.writing.push_answers.Given as goal

abbrev pub invariant-loop-answer : goal.invariant-loop-answer
invariant-loop-answer l = l.bytes.items ≡ l.fn.bytes.items ++ flat_map (λ a. answer_lines (view a)) (take l.answer-index l.answers)
