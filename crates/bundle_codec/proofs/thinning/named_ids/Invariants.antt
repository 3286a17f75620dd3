use Rattle.bundle_codec.proofs.Named.{Gathered}
use Rattle.bundle_codec.proofs.thinning.named_ids.Given as goal

abbrev pub invariant-loop-op : goal.invariant-loop-op
invariant-loop-op l = Gathered l.fn.ops l.op-iterator l.named
