use Rattle.op_core.proofs.Sets.Groupings.{same_skeleton_shows_same}
use Rattle.op_core.proofs.laws.thinning.same_skeleton_shows_same.Goals as goal

pub returns : goal.returns
returns _ = same_skeleton_shows_same
