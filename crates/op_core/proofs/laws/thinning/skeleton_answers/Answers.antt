use Rattle.op_core.proofs.ThinnedSets.Alike.{skeleton_answers}
use Rattle.op_core.proofs.laws.thinning.skeleton_answers.Goals as goal

pub returns : goal.returns
returns _ = skeleton_answers
