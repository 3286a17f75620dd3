use Rattle.segment_history.proofs.NamedIds.{Gathered}
use Rattle.segment_history.proofs.thinning.named_ids.Given as goal

abbrev pub invariant-loop-op : goal.invariant-loop-op
invariant-loop-op l = Gathered l.bundle l.op-iterator l.named
