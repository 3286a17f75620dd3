use Rattle.std.proofs.Common.{arith, sym, ap, ◌∙◌}
use Rattle.std.specs.Ordering.{is_lt}
use Rattle.op_core.proofs.IdOrders.Rising.{ids_rise_first, ids_rise_step, ids_rise_stop}
use Rattle.op_core.proofs.ids.op_id.rise.Goals as goal

pub loop-i-init : goal.loop-i-init
loop-i-init c = ids_rise_first _

pub loop-i-preserved : goal.loop-i-preserved
loop-i-preserved c = ids_rise_step c.args.named.now c.loop-i.i _ _ (omega arith)
    (omega arith) c.index-named-i.is c.index-named-i-in-loop-i.is c.loop-i.invariant
    (sym (c.is_lt.ensures ∙ ap is_lt c.cmp.ensures) ∙ c.if-not-is_lt.false)

pub returns-then-not-is_lt : goal.returns-then-not-is_lt
returns-then-not-is_lt c = ids_rise_stop c.args.named.now c.loop-i.i _ _ (omega arith)
    (omega arith) c.index-named-i.is c.index-named-i-in-loop-i.is (sym (c.is_lt.ensures ∙ ap is_lt c.cmp.ensures) ∙ c.if-not-is_lt.true)
