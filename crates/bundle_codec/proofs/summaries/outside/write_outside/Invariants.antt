use Rattle.std.proofs.Common.{◌≡◌}
use Rattle.op_core.specs.Thinned.{is_sent}
use Rattle.bundle_codec.specs.Summaries.{covers}
use Rattle.bundle_codec.proofs.Outside.{Written}
use Rattle.bundle_codec.proofs.summaries.outside.write_outside.Given as goal

abbrev pub invariant-loop-op : goal.invariant-loop-op
invariant-loop-op l =
    (l.coverage ≡ l.summary) × Written (is_sent l.fn.ops (covers l.summary)) l.fn.ops l.op-iterator l.bytes.items l.full l.count
