use Rattle.std.proofs.Common.{◌∙◌}
use Rattle.segment_history.proofs.NamedIds.{none_gathered, gathers, all_gathered}
use Rattle.segment_history.proofs.thinning.named_ids.Goals as goal

pub loop-op-init : goal.loop-op-init
loop-op-init c = none_gathered c.args.bundle.now c.into_iter-op-iterator.result c.new-named.result c.new-named.ensures.empty
    (c.into_iter-op-iterator.ensures.into_iter_gives ∙ c.ops-op-items.ensures.items)

pub loop-op-preserved : goal.loop-op-preserved
loop-op-preserved c = gathers c.args.bundle.now c.loop-op.op-iterator c.next.new.self c.in-Some.op c.loop-op.named c.add_named.new.named
    c.in-Some.ensures.steps c.in_ok-add_named.ensures c.loop-op.invariant

pub returns : goal.returns
returns c = all_gathered c.args.bundle.now c.loop-op.op-iterator c.loop-op.named c.in-None.ensures.steps.0 c.loop-op.invariant
