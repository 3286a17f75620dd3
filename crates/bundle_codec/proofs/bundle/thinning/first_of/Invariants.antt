use Rattle.bundle_codec.proofs.Unnamed.{SoFarFirst}
use Rattle.bundle_codec.proofs.bundle.thinning.first_of.Given as goal

abbrev pub invariant-loop-k : goal.invariant-loop-k
invariant-loop-k l = SoFarFirst l.thinned l.fn.ops l.ops l.k l.count
