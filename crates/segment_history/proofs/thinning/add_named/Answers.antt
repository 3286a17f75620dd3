use Rattle.std.proofs.Common.{◌∙◌}
use Rattle.segment_history.proofs.NamedIds.{none_added, adds, all_added}
use Rattle.segment_history.proofs.thinning.add_named.Goals as goal

pub loop-id-init : goal.loop-id-init
loop-id-init c = none_added c.args.op.now c.into_iter-id-iterator.result c.args.named.now
    (c.into_iter-id-iterator.ensures.into_iter_gives ∙ c.replaced-id-items.ensures)

pub loop-id-preserved : goal.loop-id-preserved
loop-id-preserved c = adds c.args.op.now c.loop-id.id-iterator c.next.new.self c.in-Some.id c.args.named.now c.loop-id.named
    c.insert.new.self c.book.result c.key.result c.in-Some.ensures.steps c.book.ensures c.key.ensures c.in_ok-insert.ensures.updates.0
    c.loop-id.invariant

pub returns : goal.returns
returns c = all_added c.args.op.now c.loop-id.id-iterator c.args.named.now c.loop-id.named c.in-None.ensures.steps.0 c.loop-id.invariant
