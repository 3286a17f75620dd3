use Rattle.std.proofs.Common.{◌≡◌, map, take}
use Rattle.bundle_codec.specs.Summaries.{covers}
use Rattle.segment_history.specs.Changes.{new_ops}
use Rattle.segment_history.proofs.since.new_makers.Given as goal

abbrev pub invariant-loop-op : goal.invariant-loop-op
invariant-loop-op l = l.names.items ≡ map (λ o. o.id.name) (new_ops (take l.op-index l.ops) (covers l.known))
