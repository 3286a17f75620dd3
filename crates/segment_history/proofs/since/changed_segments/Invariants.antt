use Rattle.std.proofs.Common.{◌≡◌, ◌++◌, map}
use Rattle.bundle_codec.specs.Summaries.{covers}
use Rattle.segment_history.specs.Changes.{new_ops}
use Rattle.segment_history.proofs.since.changed_segments.Given as goal

-- the segments so far, and those of what is left
abbrev pub invariant-loop-op : goal.invariant-loop-op
invariant-loop-op l =
    l.segments.items ++ map (λ o. o.segment) (new_ops l.op-iterator (covers l.known))
    ≡ map (λ o. o.segment) (new_ops l.bundle (covers l.known))
