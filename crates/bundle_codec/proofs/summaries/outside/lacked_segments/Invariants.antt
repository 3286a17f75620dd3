use Rattle.bundle_codec.specs.Summaries.{covers}
use Rattle.bundle_codec.proofs.LackedSegments.{Gathered}
use Rattle.bundle_codec.proofs.summaries.outside.lacked_segments.Given as goal

abbrev pub invariant-loop-op : goal.invariant-loop-op
invariant-loop-op l = Gathered (covers l.summary) l.fn.ops l.op-iterator l.segments
