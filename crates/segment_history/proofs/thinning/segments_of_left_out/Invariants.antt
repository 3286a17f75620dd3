use Rattle.std.proofs.Common.{◌≡◌, ◌++◌, map, filter}
use Rattle.op_core.specs.Thinned.{is_left_out}
use Rattle.segment_history.specs.LeftOut.{segments_of_left_out}
use Rattle.segment_history.proofs.thinning.segments_of_left_out.Given as goal

-- the segments so far, and those of what is left
abbrev pub invariant-loop-op : goal.invariant-loop-op
invariant-loop-op l =
    l.segments.items ++ map (λ o. o.segment) (filter (is_left_out l.bundle) l.op-iterator) ≡ segments_of_left_out l.bundle
