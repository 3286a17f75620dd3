use Rattle.sync_changes.proofs.Listed.{InsertedSoFar}
use Rattle.sync_changes.proofs.shown.insert_named.Given as goal

abbrev pub invariant-loop-id : goal.invariant-loop-id
invariant-loop-id l = InsertedSoFar l.op.replaced l.id-iterator l.fn.ids l.ids
