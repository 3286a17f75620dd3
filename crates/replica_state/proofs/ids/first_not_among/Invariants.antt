use Rattle.std.proofs.Common.{◌≡◌, None, not, take}
use Rattle.std.specs.List.{find}
use Rattle.op_core.specs.NextIds.{is_among}
use Rattle.replica_state.proofs.ids.first_not_among.Given as goal

abbrev pub invariant-loop-id : goal.invariant-loop-id
invariant-loop-id l = find (λ id. not (is_among l.shown id)) (take l.id-index l.ids) ≡ None
