use Rattle.bundle_codec.proofs.Unnamed.{SoFarNamed}
use Rattle.bundle_codec.proofs.bundle.thinning.remove_named_by.Given as goal

abbrev pub invariant-loop-id : goal.invariant-loop-id
invariant-loop-id l = SoFarNamed l.op l.op.replaced l.id-iterator l.fn.thinned l.thinned
