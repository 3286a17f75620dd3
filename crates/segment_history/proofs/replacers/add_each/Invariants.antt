use Rattle.segment_history.proofs.Replacing.{UnderSoFar}
use Rattle.segment_history.proofs.replacers.add_each.Given as goal

abbrev pub invariant-loop-id : goal.invariant-loop-id
invariant-loop-id l = UnderSoFar l.by l.op.replaced l.id-iterator l.fn.made l.made
