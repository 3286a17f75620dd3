use Rattle.std.proofs.Common.{◌≡◌, take}
use Rattle.std.specs.List.{AllByRecursion}
use Rattle.op_core.specs.declared.index.turns.Turn.{Turn}
use Rattle.op_core.proofs.index.turns.run_len.Given as goal

abbrev pub invariant-loop-at : goal.invariant-loop-at
invariant-loop-at l = AllByRecursion (λ (t : Turn). t.segment ≡ l.first.segment) (take l.at l.turns)
