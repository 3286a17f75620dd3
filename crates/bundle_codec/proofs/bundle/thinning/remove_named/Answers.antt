use Rattle.bundle_codec.proofs.Unnamed.{left_on, left_all}
use Rattle.bundle_codec.proofs.bundle.thinning.remove_named.Goals as goal

pub loop-op-preserved : goal.loop-op-preserved
loop-op-preserved c =
    left_on c.args.ops c.loop-op.op-iterator c.next.new.self c.in-Some.op c.args.thinned.now c.loop-op.thinned
    c.remove_named_by.new.thinned c.in-Some.ensures.steps c.remove_named_by.ensures c.loop-op.invariant

pub returns : goal.returns
returns c =
    left_all c.args.ops c.loop-op.op-iterator c.args.thinned.now c.loop-op.thinned c.in-None.ensures.steps.0 c.loop-op.invariant
