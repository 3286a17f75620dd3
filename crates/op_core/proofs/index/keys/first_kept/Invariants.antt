use Rattle.std.proofs.Common.{◌≡◌, length}
use Rattle.op_core.specs.Loops.Index.{kept_keys}
use Rattle.op_core.proofs.index.keys.first_kept.Given as goal

abbrev pub invariant-registers : goal.invariant-registers
invariant-registers l = kept_keys l.registers ≡ kept_keys l.left

abbrev pub decreases-registers : goal.decreases-registers
decreases-registers l = length l.left
