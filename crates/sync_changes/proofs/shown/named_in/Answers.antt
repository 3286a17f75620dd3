use Rattle.sync_changes.specs.Loops.Parts.{in_part}
use Rattle.sync_changes.proofs.Showing.{named_more}
use Rattle.sync_changes.proofs.shown.named_in.Goals as goal

pub loop-op-preserved : goal.loop-op-preserved
loop-op-preserved c =
    named_more c.args.ops.now (in_part c.args.part) c.loop-op.op-index c.op-item.result c.loop-op-test.true c.op-item.is
    c.loop-op.ids c.insert_if_in.new.ids c.in_ok-insert_if_in.ensures c.loop-op.invariant
