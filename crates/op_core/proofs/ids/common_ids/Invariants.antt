use Rattle.std.proofs.Common.{◌≡◌, filter, take}
use Rattle.op_core.proofs.ids.common_ids.Given as goal
use Rattle.op_core.specs.NextIds.{is_among}

abbrev pub invariant-loop-id : goal.invariant-loop-id
invariant-loop-id l = l.common.items ≡ filter (λ i. is_among l.others i) (take l.id-index l.ids)
