use Rattle.std.proofs.Common.{ap, length, arith}
use Rattle.book_reading.proofs.ChapterLemmas.{next_chapter}
use Rattle.book_reading.proofs.chapters.ChaptersIterator.next.Goals as goal

pub returns-clause-steps : goal.returns-clause-steps
returns-clause-steps c =
    next_chapter c.args.self.now.rest.now c.in_ok-_first._first.now c.first_len-count.result c.in_ok-_first.ensures.value
    c.first_len-count.ensures.some

pub returns-clause-goes : goal.returns-clause-goes
returns-clause-goes c =
    let e = next_chapter c.args.self.now.rest.now c.in_ok-_first._first.now c.first_len-count.result c.in_ok-_first.ensures.value
    c.first_len-count.ensures.some in
    record { on = λ _. (tt, tt, omega (arith, ap length e)); keeps = tt; rests = λ _. tt }
