use Rattle.std.proofs.Common.{◌++◌, drop, sym, ap, ◌∙◌, arith}
use Rattle.line_column.specs.Places.{end_of, before}
use Rattle.line_column.proofs.Ends.{ends_within, before_later, before_within}
use Rattle.line_column.proofs.walk.reached.Goals as goal

pub after-requires-clause-line : goal.after-requires-clause-line
after-requires-clause-line c =
    let text = c.args.text.now in
    let r = c.requires in
    omega (
      arith,
      (ends_within (before text c.args.passed)).0,
      ap (λ p. p.line) r.here,
      before_within text c.args.passed r.front (omega (arith, r.order, r.within)),
      c.split_at-2.ensures.back_len,
      c.split_at.ensures.front_len,
      r.order,
      r.within,
      r.room,
    )

pub after-requires-clause-column : goal.after-requires-clause-column
after-requires-clause-column c =
    let text = c.args.text.now in
    let r = c.requires in
    omega (
      arith,
      (ends_within (before text c.args.passed)).1,
      ap (λ p. p.column) r.here,
      before_within text c.args.passed r.front (omega (arith, r.order, r.within)),
      c.split_at-2.ensures.back_len,
      c.split_at.ensures.front_len,
      r.order,
      r.within,
      r.room,
    )

pub returns : goal.returns
returns c =
    let text = c.args.text.now in
    let r = c.requires in
    let part = c.split_at-2.ensures.back ∙ ap (drop c.args.passed) c.split_at.ensures.front in
    c.after.ensures (before text c.args.passed) r.here
    ∙ ap (λ p. end_of (before text c.args.passed ++ p)) part
    ∙ ap end_of (sym (before_later text c.args.passed c.args.end r.front r.order r.within))
