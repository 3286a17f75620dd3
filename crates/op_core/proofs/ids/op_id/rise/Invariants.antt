use Rattle.std.proofs.Common.{◌≡◌, true, take}
use Rattle.op_core.specs.Ids.{ids_rise}
use Rattle.op_core.proofs.ids.op_id.rise.Given as goal

abbrev pub invariant-loop-i : goal.invariant-loop-i
invariant-loop-i l = ids_rise (take l.i l.named) ≡ true
