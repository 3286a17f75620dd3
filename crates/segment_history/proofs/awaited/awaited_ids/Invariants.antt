use Rattle.segment_history.proofs.Gathers.{LacksSoFar}
use Rattle.segment_history.proofs.awaited.awaited_ids.Given as goal

abbrev pub invariant-loop-op : goal.invariant-loop-op
invariant-loop-op l = LacksSoFar l.gathered l.bundle l.op-iterator l.ids
