use Rattle.std.proofs.Common.{refl, ◌∙◌}
use Rattle.segment_history.proofs.Replacing.{under_none, under_more, under_all, falls_rise}
use Rattle.segment_history.proofs.replacers.add_each.Goals as goal

pub loop-id-init : goal.loop-id-init
loop-id-init c =
    under_none c.id-by.result c.args.op.now.replaced c.into_iter-id-iterator.result c.args.made.now c.args.made.now
    (c.into_iter-id-iterator.ensures.into_iter_gives ∙ c.replaced-id-items.ensures) refl
    (falls_rise c.args.op.now c.id-by.ensures.valid)

pub loop-id-preserved : goal.loop-id-preserved
loop-id-preserved c =
    under_more c.id-by.result c.args.op.now.replaced c.loop-id.id-iterator c.next.new.self c.in-Some.id c.args.made.now
    c.loop-id.made c.add_under.new.made c.in-Some.ensures.steps c.in_ok-add_under.ensures c.loop-id.invariant

pub returns : goal.returns
returns c =
    under_all c.args.op.now c.id-by.result c.loop-id.id-iterator c.args.made.now c.loop-id.made c.id-by.ensures.id
    c.in-None.ensures.steps.0 c.loop-id.invariant
