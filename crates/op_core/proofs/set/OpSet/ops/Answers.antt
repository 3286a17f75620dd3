use Rattle.std.proofs.Common.{◌∙◌, sym, subst, IsTrue, List}
use Rattle.op_core.specs.Ops.{Operation}
use Rattle.op_core.specs.Sets.{rises}
use Rattle.op_core.proofs.set.OpSet.ops.Goals as goal

pub returns-clause-ops : goal.returns-clause-ops
returns-clause-ops c = c.deref.ensures.value ∙ c.self.view_is

pub returns-clause-rising : goal.returns-clause-rising
returns-clause-rising c = subst (λ (ops : List Operation). IsTrue (rises ops)) (sym c.deref.ensures.value) c.self.invariant.0.rising
