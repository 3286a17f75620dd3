use Rattle.std.proofs.Common.{sym, arith}
use Rattle.bundle_codec.proofs.Covered.{between_low, between_high, between_none}
use Rattle.bundle_codec.proofs.summaries.range.find_range.Goals as goal

pub halves-preserved-then-number-range : goal.halves-preserved-then-number-range
halves-preserved-then-number-range c = between_high c.args.number c.args.ranges.now c.requires.each c.requires.apart c.halves.low
    c.halves.high _ _ c.halves.invariant (omega arith) (omega arith) c.if-number-range.true

pub halves-preserved : goal.halves-preserved
halves-preserved c = between_low c.args.number c.args.ranges.now c.requires.each c.requires.apart c.halves.low c.halves.high _ _
    c.halves.invariant (omega arith) (omega arith) c.if-range-number.true

pub returns : goal.returns
returns c = sym (between_none c.args.number c.args.ranges.now c.halves.low c.halves.high c.halves.invariant c.halves-test.false)
