use Rattle.bundle_codec.proofs.Thins.{Thins}
use Rattle.bundle_codec.proofs.thinning.push_thinned.Given as goal

abbrev pub invariant-loop-op : goal.invariant-loop-op
invariant-loop-op l = Thins l.bundle l.op-iterator l.fn.bytes.items l.bytes.items l.full l.left_out
