use Rattle.std.proofs.Common.{arith, sym, ◌∙◌}
use Rattle.kept_days.proofs.Names.{from_here, from_later, from_none, no_text}
use Rattle.kept_days.proofs.days.days_from.Goals as goal

pub returns-then-not-is_before : goal.returns-then-not-is_before
returns-then-not-is_before c =
    sym (c.loop-left.invariant ∙ from_here c.args.asked.now c.loop-left.left.now no_text (omega (arith, c.in-len1-up.len_at_least))
    (sym c.is_before.ensures ∙ c.if-not-is_before.true))

pub loop-left-preserved : goal.loop-left-preserved
loop-left-preserved c =
    c.loop-left.invariant ∙ from_later c.args.asked.now c.loop-left.left.now no_text (omega (arith, c.in-len1-up.len_at_least))
    (sym c.is_before.ensures ∙ c.if-not-is_before.false)

pub returns : goal.returns
returns c = sym (c.loop-left.invariant ∙ from_none c.args.asked.now c.loop-left.left.now (omega (arith, c.in_default.len_below)))
