use Rattle.std.proofs.Common.{◌≡◌, ◌∙◌, ◌-◌, List, length, ap, sym, subst, arith, length-append}
use Rattle.conflict_answers.specs.Answers.{AnswerParts, view, views}
use Rattle.conflict_answers.specs.Reading.{at_first}
use Rattle.conflict_answers.specs.Spelling.{all_lines, spelling}
use Rattle.conflict_answers.specs.Loops.Walk.{HasRead}
use Rattle.conflict_answers.specs.declared.answer.Answer.{Answer}
use Rattle.conflict_answers.proofs.Readers.{none_left, nothing_is, some_left}
use Rattle.conflict_answers.proofs.Walks.{all_read, answer_is, answer_may, bad_line, has_begun, has_more, no_answer, no_spelling, one_answer, read_again, shorter, views_more}
use Rattle.conflict_answers.proofs.reading.read.Goals as goal

pub returns-in_default-clause-again : goal.returns-in_default-clause-again
unfolding spelling
returns-in_default-clause-again c answers are is =
    absurd (nothing_is (all_lines answers) (c.in_default.ensures.only (all_lines answers) is))

pub returns-in_default-clause-refused : goal.returns-in_default-clause-refused
returns-in_default-clause-refused c line e =
    let first : line ≡ 1 = cc in at_first first (λ rest is. nothing_is rest (c.in_default.ensures.only rest is))

pub answers-init : goal.answers-init
answers-init c =
    subst (λ (xs : List Answer). HasRead c.args.bytes.now (views xs) c.in-Some.rest.now) (sym c.new-answers.ensures.items)
    (has_begun c.args.bytes.now c.in-Some.rest.now c.in-Some.ensures.spelled)

pub line_of-line-requires : goal.line_of-line-requires
line_of-line-requires c =
    let all = ap length c.answers.invariant.begins ∙ length-append (spelling (views c.answers.answers.items)) c.answers.rest.now in
    omega (arith, all)

pub returns-in_default-2-clause-again : goal.returns-in_default-2-clause-again
returns-in_default-2-clause-again c answers are is =
    absurd
    (no_spelling c.args.bytes.now (views c.answers.answers.items) c.answers.rest.now c.answers.invariant
    (some_left c.answers.rest.now c.is_empty.result c.is_empty.ensures c.answers-test.true)
    (no_answer c.answers.rest.now c.in_ok-answer.field-0 c.in_default-2.is c.in_ok-answer.ensures.only) answers are is)

pub returns-in_default-2-clause-refused : goal.returns-in_default-2-clause-refused
returns-in_default-2-clause-refused c line e =
    let bytes = c.args.bytes.now in
    let same : line ≡ c.line_of-line.result = cc in
    bad_line bytes (views c.answers.answers.items) c.answers.rest.now c.answers.invariant
    (some_left c.answers.rest.now c.is_empty.result c.is_empty.ensures c.answers-test.true)
    (no_answer c.answers.rest.now c.in_ok-answer.field-0 c.in_default-2.is c.in_ok-answer.ensures.only) line
    (same ∙ c.line_of-line.ensures)

pub answers-preserved : goal.answers-preserved
answers-preserved c =
    let rest = c.answers.rest.now in
    let a = c.in-Some-2.answer in
    let after = c.in-Some-2.after in
    let found = c.in_ok-answer.field-0 in
    let more = has_more c.args.bytes.now (views c.answers.answers.items) rest c.answers.invariant (view a) after.now
    (answer_may found a after c.in-Some-2.is c.in_ok-answer.ensures.valid)
    (answer_is rest found a after c.in-Some-2.is c.in_ok-answer.ensures.spelled)
    (one_answer rest found a after c.in-Some-2.is c.in_ok-answer.ensures.only) in
    subst (λ (vs : List AnswerParts). HasRead c.args.bytes.now vs after.now)
    (sym (ap views c.in_ok-push.ensures.items ∙ views_more c.answers.answers.items a)) more

pub answers-smaller : goal.answers-smaller
answers-smaller c =
    shorter (view c.in-Some-2.answer) c.answers.rest.now c.in-Some-2.after.now
    (answer_is c.answers.rest.now c.in_ok-answer.field-0 c.in-Some-2.answer c.in-Some-2.after c.in-Some-2.is c.in_ok-answer.ensures.spelled)

pub returns-clause-spelled : goal.returns-clause-spelled
returns-clause-spelled c =
    all_read c.args.bytes.now (views c.answers.answers.items) c.answers.rest.now c.answers.invariant
    (none_left c.answers.rest.now c.is_empty.result c.is_empty.ensures c.answers-test.false)

pub returns-clause-valid : goal.returns-clause-valid
returns-clause-valid c = c.answers.invariant.are

pub returns-clause-again : goal.returns-clause-again
returns-clause-again c =
    read_again c.args.bytes.now (views c.answers.answers.items) c.answers.rest.now c.answers.invariant
    (none_left c.answers.rest.now c.is_empty.result c.is_empty.ensures c.answers-test.false)
