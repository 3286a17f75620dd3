use Rattle.segment_history.proofs.NamedIds.{SoFarAdded}
use Rattle.segment_history.proofs.thinning.add_named.Given as goal

abbrev pub invariant-loop-id : goal.invariant-loop-id
invariant-loop-id l = SoFarAdded l.op l.id-iterator l.fn.named l.named
