use Rattle.std.proofs.Common.{◌≡◌, ◌-◌, sym, ap, ◌∙◌, arith}
use Rattle.std.proofs.lemmas.List.{get_or_default}
use Rattle.bundle_codec.specs.declared.summaries.range.NumberRange.{NumberRange}
use Rattle.bundle_codec.proofs.Lasts.{last_grows, last_added, first_added}
use Rattle.bundle_codec.proofs.summaries.making.hold_number.Goals.{then-count-gt0+else-last-number, else-last-number-via-then-last-number+else-number-last-eq1, else-last-number-via-else-last-number, else-count-gt0}
use Rattle.bundle_codec.proofs.summaries.making.hold_number.Goals as goal

pub returns-then-number-last-eq1 : goal.returns-then-number-last-eq1
returns-then-number-last-eq1 c =
    let same : c.index_mut.result.now.last
    ≡ c.index.result.now.last = ap (λ (r : NumberRange). r.last)
    (c.index_mut.ensures.value ∙ get_or_default c.args.ranges.now.items
    (c.len-count.result - 1) c.index_mut.result.now c.index.result.now
    (omega (arith, c.len-count.ensures, c.args.ranges.now.ok.0, c.if-count-gt0.true)) ∙ sym c.index.ensures) in
    last_grows c.args.ranges.now.items (c.len-count.result - 1) c.index_mut.result.now c.args.number
    (omega (arith, c.len-count.ensures, c.args.ranges.now.ok.0, c.if-count-gt0.true)) c.index_mut.ensures.value
    (omega (arith, same, c.if-last-number.true, c.if-number-last-eq1.true))

pub returns : goal.returns
returns c = c.in_ok-push.ensures.items ∙ elim c.if-count-gt0.branch [
  | then-count-gt0+else-last-number w ↦ last_added c.args.ranges.now.items (c.len-count.result - 1) w.index.result.now c.args.number
      (omega (arith, c.len-count.ensures, c.args.ranges.now.ok.0, w.if-count-gt0.true)) w.index.ensures
      (elim w.else-last-number.branch [
        | else-last-number-via-then-last-number+else-number-last-eq1 w' ↦ λ e. w'.if-number-last-eq1.false (omega (arith, e))
        | else-last-number-via-else-last-number w' ↦ λ e. omega (arith, e, w'.if-last-number.false)
      ])
  | else-count-gt0 w ↦ first_added c.args.ranges.now.items c.args.number
      (omega (arith, c.len-count.ensures, c.args.ranges.now.ok.0, w.if-count-gt0.false))
]
