use Rattle.std.proofs.Common.{◌≡◌, true, take}
use Rattle.std.specs.List.{list_all}
use Rattle.op_core.specs.Ids.{is_id}
use Rattle.op_core.proofs.operations.op.look_at_each.Given as goal

abbrev pub invariant-loop-id : goal.invariant-loop-id
invariant-loop-id l = list_all is_id (take l.id-index l.replaced) ≡ true
