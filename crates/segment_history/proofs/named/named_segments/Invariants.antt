use Rattle.std.proofs.Common.{◌≡◌, ◌++◌, map, filter, take}
use Rattle.std.specs.List.{flat_map}
use Rattle.segment_history.specs.Naming.{by_itself, is_named}
use Rattle.segment_history.proofs.named.named_segments.Given as goal

abbrev pub invariant-loop-name : goal.invariant-loop-name
invariant-loop-name l = l.segments.items ≡ flat_map by_itself (take l.name-index l.names)

-- the segments so far, and those of what is left
abbrev pub invariant-loop-op : goal.invariant-loop-op
invariant-loop-op l =
    l.segments.items ++ filter (is_named l.names) (map (λ o. o.segment) l.op-iterator)
    ≡ flat_map by_itself l.names ++ filter (is_named l.names) (map (λ o. o.segment) l.bundle)
