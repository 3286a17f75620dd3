use Rattle.op_core.proofs.ThinnedSets.Alike.{answers_same}
use Rattle.op_core.proofs.laws.thinning.says_same.Goals as goal

pub returns : goal.returns
returns _ = answers_same
