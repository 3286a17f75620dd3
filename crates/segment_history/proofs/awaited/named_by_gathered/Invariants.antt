use Rattle.segment_history.proofs.Gathers.{NamedSoFar}
use Rattle.segment_history.proofs.awaited.named_by_gathered.Given as goal

abbrev pub invariant-loop-op : goal.invariant-loop-op
invariant-loop-op l = NamedSoFar l.gathered l.bundle l.op-iterator l.ids
