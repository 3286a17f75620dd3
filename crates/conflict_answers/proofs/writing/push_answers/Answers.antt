use Rattle.conflict_answers.specs.Answers.{view}
use Rattle.conflict_answers.specs.Spelling.{answer_lines}
use Rattle.conflict_answers.specs.declared.answer.Answer.{Answer}
use Rattle.conflict_answers.proofs.Appending.{appended}
use Rattle.conflict_answers.proofs.writing.push_answers.Goals as goal

pub loop-answer-preserved : goal.loop-answer-preserved
loop-answer-preserved c =
    appended (λ (a : Answer). answer_lines (view a)) c.args.answers.now c.loop-answer.answer-index c.answer-item.result
    c.args.bytes.now.items c.loop-answer.bytes.items c.push_answer.new.bytes.items c.loop-answer-test.true c.answer-item.is
    c.in_ok-push_answer.ensures c.loop-answer.invariant
