use Rattle.std.proofs.Common.{subst, List}
use Rattle.op_core.specs.Ops.{Operation}
use Rattle.op_core.specs.Sets.{IsOpSet}
use Rattle.op_core.specs.Loops.Index.{IsIndex}
use Rattle.op_core.proofs.set.OpSet.index.Goals as goal

pub returns-clause-set : goal.returns-clause-set
returns-clause-set c = subst IsOpSet c.self.view_is c.self.invariant.0

pub returns-clause-index : goal.returns-clause-index
returns-clause-index c =
    rw c.deref.ensures.value (subst (λ (ops : List Operation). IsIndex ops c.self.inside.chapters.items) c.self.view_is c.self.invariant.1)
