use Rattle.segment_history.proofs.Keeping.{texts_more}
use Rattle.segment_history.proofs.texts.texts_of.Goals as goal

pub loop-op-preserved : goal.loop-op-preserved
loop-op-preserved c =
    texts_more c.args.ops.now c.loop-op.op-index c.op-item.result c.loop-op.texts c.put.new.texts c.loop-op-test.true c.op-item.is
    c.requires c.in_ok-put.ensures c.loop-op.invariant
