use Rattle.std.proofs.Common.{sym, ap, ◌∙◌}
use Rattle.bundle_codec.specs.Loops.Thinning.{is_beside}
use Rattle.bundle_codec.proofs.Unnamed.{goes}
use Rattle.bundle_codec.proofs.bundle.thinning.remove_named_by.Goals as goal

pub loop-id-preserved-then-is_beside : goal.loop-id-preserved-then-is_beside
loop-id-preserved-then-is_beside c =
    goes c.args.op.now c.args.op.now.replaced c.loop-id.id-iterator c.next.new.self c.in-Some.id c.args.thinned.now c.loop-id.thinned
    c.in-Some.ensures.steps c.loop-id.invariant
    (ap (λ g. is_beside g c.args.op.now) (sym c.get.ensures.value) ∙ sym c.is_beside.ensures ∙ c.if-is_beside.true)
    c.remove.new.self c.remove.ensures.updates.0
