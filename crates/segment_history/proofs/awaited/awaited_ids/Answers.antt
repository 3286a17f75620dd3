use Rattle.std.proofs.Common.{◌∙◌}
use Rattle.segment_history.proofs.Gathers.{lacks_none, lacks_more, lacks_all}
use Rattle.segment_history.proofs.awaited.awaited_ids.Goals as goal

pub loop-op-init : goal.loop-op-init
loop-op-init c =
    lacks_none c.args.gathered.now c.args.bundle.now c.into_iter-op-iterator.result c.in_ok-ids.ids
    (c.into_iter-op-iterator.ensures.into_iter_gives ∙ c.ops-op-items.ensures.items) c.in_ok-ids.ensures

pub loop-op-preserved : goal.loop-op-preserved
loop-op-preserved c =
    lacks_more c.args.gathered.now c.args.bundle.now c.loop-op.op-iterator c.next.new.self c.in-Some.op c.id.result c.loop-op.ids
    c.remove.new.self c.in-Some.ensures.steps c.id.ensures.id c.remove.ensures.updates.0 c.loop-op.invariant

pub returns : goal.returns
returns c =
    lacks_all c.args.gathered.now c.args.bundle.now c.loop-op.op-iterator c.loop-op.ids c.in-None.ensures.steps.0 c.loop-op.invariant
