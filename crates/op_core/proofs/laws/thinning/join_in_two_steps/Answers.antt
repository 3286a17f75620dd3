use Rattle.op_core.proofs.ThinnedSets.TwoSteps.{two_steps}
use Rattle.op_core.proofs.laws.thinning.join_in_two_steps.Goals as goal

pub returns : goal.returns
returns _ = two_steps
