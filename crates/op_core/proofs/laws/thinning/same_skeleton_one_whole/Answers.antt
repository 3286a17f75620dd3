use Rattle.op_core.proofs.Sets.Groupings.{same_whole}
use Rattle.op_core.proofs.laws.thinning.same_skeleton_one_whole.Goals as goal

pub returns : goal.returns
returns _ = same_whole
