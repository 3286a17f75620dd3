use Rattle.segment_history.proofs.Replacing.{replacers_more}
use Rattle.segment_history.proofs.replacers.replacers_of.Goals as goal

pub loop-op-preserved : goal.loop-op-preserved
loop-op-preserved c =
    replacers_more c.args.ops.now c.loop-op.op-index c.op-item.result c.loop-op.made c.add_each.new.made c.loop-op-test.true
    c.op-item.is c.in_ok-add_each.ensures c.loop-op.invariant
