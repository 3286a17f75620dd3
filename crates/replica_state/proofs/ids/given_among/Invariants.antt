use Rattle.std.proofs.Common.{◌≡◌, filter, take}
use Rattle.op_core.specs.NextIds.{is_among}
use Rattle.replica_state.proofs.ids.given_among.Given as goal

abbrev pub invariant-loop-id : goal.invariant-loop-id
invariant-loop-id l = l.ids.items ≡ filter (is_among l.fn.given) (take l.id-index l.shown)
