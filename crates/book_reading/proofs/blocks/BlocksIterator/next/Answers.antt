use Rattle.std.proofs.Common.{ap, length, arith}
use Rattle.book_reading.proofs.Nexts.{next_block}
use Rattle.book_reading.proofs.blocks.BlocksIterator.next.Goals as goal

pub returns-clause-steps : goal.returns-clause-steps
returns-clause-steps c =
    next_block c.args.self.now.rest.now c.in_ok-first.field-0.now c.begins-kind.result c.first_len-count.result
    c.in_ok-first.ensures.value c.begins-kind.ensures c.first_len-count.ensures.some

pub returns-clause-goes : goal.returns-clause-goes
returns-clause-goes c =
    let e = next_block c.args.self.now.rest.now c.in_ok-first.field-0.now c.begins-kind.result c.first_len-count.result
    c.in_ok-first.ensures.value c.begins-kind.ensures c.first_len-count.ensures.some in
    record { on = λ _. (tt, tt, omega (arith, ap length e)); keeps = tt; rests = λ _. tt }
