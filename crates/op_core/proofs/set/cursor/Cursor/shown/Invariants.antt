use Rattle.std.proofs.Common.{◌≡◌, map, take}
use Rattle.op_core.proofs.IdOrders.Listed.{gets}
use Rattle.op_core.proofs.set.cursor.Cursor.shown.Given as goal

abbrev pub invariant-loop-id : goal.invariant-loop-id
invariant-loop-id l = (l.self ≡ l.fn.self) × (map (λ op. op.now) l.shown.items ≡ gets l.fn.self (take l.id-index l.ids))
