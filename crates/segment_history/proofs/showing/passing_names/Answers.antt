use Rattle.std.specs.Option.{option_copied}
use Rattle.segment_history.proofs.ShownLists.{passing_more}
use Rattle.segment_history.proofs.showing.passing_names.Goals as goal

pub loop-op-preserved : goal.loop-op-preserved
loop-op-preserved c =
    passing_more c.args.ops.now (option_copied c.args.known) c.loop-op.op-index c.op-item.result c.loop-op-test.true c.op-item.is
    c.loop-op.ids c.insert_if_passing.new.ids c.in_ok-insert_if_passing.ensures c.loop-op.invariant
