use Rattle.std.proofs.Common.{◌≡◌, ◌++◌, map, take}
use Rattle.conflict_settling.proofs.asked.push_ids.Given as goal

-- the ids of the operations so far
abbrev pub invariant-loop-op : goal.invariant-loop-op
invariant-loop-op l =
    l.ids.items ≡ l.fn.ids.items ++ map (λ op. op.now.id) (take l.op-index l.ops)
