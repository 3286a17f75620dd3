use Rattle.std.proofs.Common.{ap, sym, subst, length, arith}
use Rattle.std.specs.Iterator.{YieldsFirstBy}
use Rattle.book_reading.specs.Views.{note_view, notes_left}
use Rattle.book_reading.proofs.Nexts.{no_note, next_note}
use Rattle.book_reading.proofs.notes.NotesIterator.next.Goals as goal

pub returns-in_err-number-clause-steps : goal.returns-in_err-number-clause-steps
returns-in_err-number-clause-steps c =
    let s = c.args.self.now in
    let e = no_note s.rest.now c.passed_len-passed.result c.passed_len-passed.ensures.value c.in_err-number.ensures.value in
    subst (λ r. YieldsFirstBy note_view notes_left s r s) (sym c.from_residual.ensures) (e, e)

pub returns-clause-steps : goal.returns-clause-steps
returns-clause-steps c =
    next_note c.args.self.now.rest.now c.passed_len-passed.result c.passed_len-passed.ensures.value c.in_ok-number.field-0.now
    c.first_len-count.result c.in_ok-number.ensures.value c.first_len-count.ensures.some

pub returns-clause-goes : goal.returns-clause-goes
returns-clause-goes c =
    let e = next_note c.args.self.now.rest.now c.passed_len-passed.result c.passed_len-passed.ensures.value
    c.in_ok-number.field-0.now c.first_len-count.result c.in_ok-number.ensures.value c.first_len-count.ensures.some in
    record { on = λ _. (tt, tt, omega (arith, ap length e)); keeps = tt; rests = λ _. tt }
