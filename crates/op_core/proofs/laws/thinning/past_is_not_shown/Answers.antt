use Rattle.op_core.proofs.ThinnedSets.TwoSteps.{past_not_shown}
use Rattle.op_core.proofs.laws.thinning.past_is_not_shown.Goals as goal

pub returns : goal.returns
returns _ = past_not_shown
