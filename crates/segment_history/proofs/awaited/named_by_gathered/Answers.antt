use Rattle.segment_history.proofs.Gathers.{named_more, named_all}
use Rattle.segment_history.proofs.awaited.named_by_gathered.Goals as goal

pub loop-op-preserved : goal.loop-op-preserved
loop-op-preserved c =
    named_more c.args.gathered.now c.args.bundle.now c.loop-op.op-iterator c.next.new.self c.in-Some.op c.loop-op.ids
    c.in-Some.ensures.steps c.loop-op.invariant c.insert_if_gathered.new.ids c.in_ok-insert_if_gathered.ensures

pub returns : goal.returns
returns c =
    named_all c.args.gathered.now c.args.bundle.now c.loop-op.op-iterator c.loop-op.ids c.in-None.ensures.steps.0 c.loop-op.invariant
