use Rattle.bundle_codec.proofs.Unnamed.{SoFarLeft}
use Rattle.bundle_codec.proofs.bundle.thinning.remove_named.Given as goal

abbrev pub invariant-loop-op : goal.invariant-loop-op
invariant-loop-op l = SoFarLeft l.fn.ops l.op-iterator l.fn.thinned l.thinned
