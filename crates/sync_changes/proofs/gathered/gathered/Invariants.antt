use Rattle.segment_history.proofs.Gathers.{GatheredSoFar}
use Rattle.sync_changes.proofs.gathered.gathered.Given as goal

abbrev pub invariant-loop-op : goal.invariant-loop-op
invariant-loop-op l = GatheredSoFar l.bundle l.segments l.op-iterator l.made
