use Rattle.std.proofs.Common.{◌≡◌, map, take, string_bytes}
use Rattle.op_core.specs.Ops.{own_text}
use Rattle.conflict_settling.proofs.asked.texts_of.Given as goal

-- the texts of the operations so far
abbrev pub invariant-loop-op : goal.invariant-loop-op
invariant-loop-op l =
    map (λ t. string_bytes t) l.texts.items ≡ map (λ op. own_text op.now) (take l.op-index l.ops)
