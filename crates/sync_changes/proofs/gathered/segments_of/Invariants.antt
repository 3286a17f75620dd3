use Rattle.std.proofs.Common.{◌≡◌, ◌++◌, map}
use Rattle.op_core.specs.Thinned.{of_ids}
use Rattle.sync_changes.specs.Loops.Parts.{in_part}
use Rattle.sync_changes.proofs.gathered.segments_of.Given as goal

-- the segments so far, and those of what is left
abbrev pub invariant-loop-op : goal.invariant-loop-op
invariant-loop-op l =
    l.segments.items ++ map (λ o. o.segment) (of_ids (in_part l.part) l.op-iterator)
    ≡ map (λ o. o.segment) (of_ids (in_part l.part) l.bundle)
