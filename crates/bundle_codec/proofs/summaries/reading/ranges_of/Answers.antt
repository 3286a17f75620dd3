use Rattle.std.proofs.Common.{◌≡◌, ◌++◌, ◌∷◌, [], ◌-◌, ◌+◌, Ok, Some, Vec, Global}
use Rattle.std.proofs.lemmas.Result.{err_from_is_err_and}
use Rattle.bundle_codec.specs.declared.summaries.range.NumberRange.{NumberRange}
use Rattle.bundle_codec.specs.Reading.{many_at, ahead}
use Rattle.bundle_codec.specs.SummaryReading.{range_at, after_range, ranges_at}
use Rattle.bundle_codec.proofs.Loops.{goes_on, fails, is_done}
use Rattle.bundle_codec.proofs.SummaryLoops.{after_kept, kept_on, kept_done, if_some, kept_more}
use Rattle.bundle_codec.proofs.summaries.reading.ranges_of.Goals as goal

pub returns-in_err-range-clause-rest : goal.returns-in_err-range-clause-rest
returns-in_err-range-clause-rest c =
    let p = err_from_is_err_and c.from_residual.result c.from_residual.ensures.1 in
    rw (p.1, p.2) (fails range_at after_range c.args.count c.loop.counter c.loop.before c.loop.rest.now c.in_err-range.field-0.0
    (ahead (ranges_at c.args.count c.args.bytes.now)) c.loop-test.true c.in_err-range.ensures c.loop.invariant.0)

pub loop-preserved : goal.loop-preserved
loop-preserved c = (
  goes_on range_at after_range c.args.count c.loop.counter c.loop.before c.loop.rest.now c.in_ok-range.range c.in_ok-range.left.now
      (ahead (ranges_at c.args.count c.args.bytes.now)) c.loop-test.true c.in_ok-range.ensures c.loop.invariant.0,
  kept_more
      (λ (v : Vec NumberRange Global). ranges_at c.args.count c.args.bytes.now
      ≡ after_kept v.items (many_at range_at after_range (c.args.count - c.loop.counter) c.loop.before c.loop.rest.now))
      (λ (v : Vec NumberRange Global). ranges_at c.args.count c.args.bytes.now
      ≡ after_kept v.items (many_at range_at after_range (c.args.count - (c.loop.counter + 1))
      (Some c.in_ok-range.range.last) c.in_ok-range.left.now))
      (λ (old : Vec NumberRange Global) (new : Vec NumberRange Global). new.items ≡ old.items ++ c.in_ok-range.range ∷ [])
      c.loop.kept c.with_range-kept.result
      (λ old new p r. kept_on range_at after_range c.args.count c.loop.counter c.loop.before c.loop.rest.now c.in_ok-range.range
      c.in_ok-range.left.now old.items new.items (ranges_at c.args.count c.args.bytes.now) c.loop-test.true c.in_ok-range.ensures r p)
      c.loop.invariant.1 c.with_range-kept.ensures,
)

pub returns-clause-rest : goal.returns-clause-rest
returns-clause-rest c = is_done range_at after_range c.args.count c.loop.counter c.loop.before c.loop.rest.now
    (ahead (ranges_at c.args.count c.args.bytes.now)) c.loop-test.false c.loop.invariant.0

pub returns-clause-kept : goal.returns-clause-kept
returns-clause-kept c = if_some
    (λ (v : Vec NumberRange Global). ranges_at c.args.count c.args.bytes.now
    ≡ after_kept v.items (many_at range_at after_range (c.args.count - c.loop.counter) c.loop.before c.loop.rest.now))
    (λ (v : Vec NumberRange Global). ranges_at c.args.count c.args.bytes.now ≡ Ok (v.items, c.loop.rest.now))
    c.loop.kept
    (λ v p. kept_done range_at after_range c.args.count c.loop.counter c.loop.before c.loop.rest.now v.items
    (ranges_at c.args.count c.args.bytes.now) c.loop-test.false p)
    c.loop.invariant.1
