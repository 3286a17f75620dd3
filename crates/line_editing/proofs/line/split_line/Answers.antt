use Rattle.std.proofs.Common.{arith}
use Rattle.line_editing.specs.Lines.{line_view}
use Rattle.line_editing.proofs.Splits.{first_is, last_is}
use Rattle.line_editing.proofs.line.split_line.Goals as goal

pub returns-in-Some-clause-line : goal.returns-in-Some-clause-line
returns-in-Some-clause-line c =
    let h = c.in-Some.ensures.byte (omega arith) (λ w o is. is) in
    first_is c.args.text.now c.in-Some.line.now c.in-Some.later.now (line_view c.ended_line.result) h.0 h.1 h.2 c.ended_line.ensures

pub returns-in-None-2-clause-line : goal.returns-in-None-2-clause-line
returns-in-None-2-clause-line c = last_is c.args.text.now (c.in-None-2.ensures.byte (omega arith) (λ w o is. is))
