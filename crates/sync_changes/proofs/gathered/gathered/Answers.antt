use Rattle.std.proofs.Common.{◌∙◌}
use Rattle.segment_history.proofs.Gathers.{gathered_none, gathered_more, gathered_all}
use Rattle.sync_changes.proofs.gathered.gathered.Goals as goal

pub loop-op-init : goal.loop-op-init
loop-op-init c =
    gathered_none c.args.bundle.now c.args.segments.now c.into_iter-op-iterator.result c.in_ok-made.made
    (c.into_iter-op-iterator.ensures.into_iter_gives ∙ c.ops-op-items.ensures.items) c.in_ok-made.ensures

pub loop-op-preserved : goal.loop-op-preserved
loop-op-preserved c =
    gathered_more c.args.bundle.now c.args.segments.now c.loop-op.op-iterator c.loop-op.made c.in-Some.op c.next.new.self
    c.hold.new.made c.in-Some.ensures.steps c.in_ok-hold.ensures c.loop-op.invariant

pub returns : goal.returns
returns c =
    gathered_all c.args.bundle.now c.args.segments.now c.loop-op.op-iterator c.loop-op.made c.in-None.ensures.steps.0
    c.loop-op.invariant
