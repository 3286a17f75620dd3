use Rattle.bundle_codec.proofs.Unnamed.{SoFarThinned}
use Rattle.bundle_codec.proofs.bundle.thinning.thinned_of.Given as goal

abbrev pub invariant-loop-op : goal.invariant-loop-op
invariant-loop-op l = SoFarThinned l.fn.ops l.op-iterator l.thinned
