use Rattle.std.proofs.Common.{length}
use Rattle.conflict_answers.specs.Answers.{views}
use Rattle.conflict_answers.specs.Loops.Walk.{HasRead}
use Rattle.conflict_answers.proofs.reading.read.Given as goal

abbrev pub invariant-answers : goal.invariant-answers
invariant-answers l = HasRead l.fn.bytes (views l.answers.items) l.rest

abbrev pub decreases-answers : goal.decreases-answers
decreases-answers l = length l.rest
