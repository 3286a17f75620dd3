use Rattle.std.proofs.Common.{◌≡◌, ◌++◌, map, take}
use Rattle.std.specs.List.{flat_map}
use Rattle.conflict_settling.specs.Questions.{repeated_line}
use Rattle.conflict_settling.proofs.question.push_repeated.Given as goal

-- the lines of the operations so far
abbrev pub invariant-loop-op : goal.invariant-loop-op
invariant-loop-op l =
    l.bytes.items ≡ l.fn.bytes.items ++ flat_map (λ op. repeated_line (map (λ op. op.now) l.texts.ops.now) op.now) (take l.op-index l.ops)
