use Rattle.std.proofs.Common.{subst, take_all}
use Rattle.std.specs.List.{AllByRecursion}
use Rattle.op_core.specs.Ops.{IsOperation}
use Rattle.op_core.proofs.Indexed.Enrolled.{all_more}
use Rattle.op_core.proofs.lists.merge.look_at_each.Goals as goal

pub loop-op-preserved : goal.loop-op-preserved
loop-op-preserved c = all_more IsOperation c.args.new.now c.loop-op.op-index c.op-item.result c.loop-op-test.true c.op-item.is
    c.loop-op.invariant c.id.ensures.valid

pub returns : goal.returns
returns c = subst (AllByRecursion IsOperation) (take_all c.loop-op.op-index c.args.new.now c.loop-op-test.false) c.loop-op.invariant
