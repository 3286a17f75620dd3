use Rattle.std.proofs.Common.{sym, ◌∙◌, arith}
use Rattle.usfm_ref.proofs.Placed.{narrowed_all, narrowed_low, narrowed_high, narrowed_place}
use Rattle.op_core.proofs.ids.steps.place_by.Goals as goal

pub halves-init : goal.halves-init
halves-init g c = record {
  ordered = omega arith;
  within = omega arith;
  narrowed = λ p h d. narrowed_all p c.args.items.now;
  grows = omega arith;
  counts = λ l. absurd (omega arith);
}

pub halves-preserved-then-holds : goal.halves-preserved-then-holds
halves-preserved-then-holds g c = record {
  ordered = omega (arith, c.look-middle.ensures.below);
  within = c.halves.invariant.within;
  narrowed = λ p h d. narrowed_low p c.args.items.now _ _ _ c.index-items-middle.result d (c.halves.invariant.narrowed p h d)
      c.look-middle.ensures.below c.index-items-middle.is (sym (h _ _ c.holds.ensures) ∙ c.if-holds.true);
  grows = omega (arith, c.halves.invariant.grows, c.count.ensures.grows, c.count.ensures.one (omega arith));
  counts = λ _. omega (arith, c.halves.invariant.grows, c.count.ensures.grows, c.count.ensures.one (omega arith));
}

pub halves-preserved : goal.halves-preserved
halves-preserved g c = record {
  ordered = c.look-middle.ensures.at_least;
  within = omega (arith, c.halves.invariant.within, c.look-middle.ensures.below);
  narrowed = λ p h d. narrowed_high p c.args.items.now _ _ _ c.index-items-middle.result d (c.halves.invariant.narrowed p h d)
      c.look-middle.ensures.at_least c.look-middle.ensures.below c.index-items-middle.is (sym (h _ _ c.holds.ensures) ∙ c.if-holds.false);
  grows = omega (arith, c.halves.invariant.grows, c.count.ensures.grows, c.count.ensures.one (omega arith));
  counts = λ _. omega (arith, c.halves.invariant.grows, c.count.ensures.grows, c.count.ensures.one (omega arith));
}

pub returns-clause-place : goal.returns-clause-place
returns-clause-place g c p h d = narrowed_place p c.args.items.now _ _ (c.halves.invariant.narrowed p h d) (omega arith)
