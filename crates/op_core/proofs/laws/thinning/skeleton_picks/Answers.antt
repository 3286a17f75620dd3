use Rattle.op_core.proofs.Sets.Groupings.{skeleton_picks}
use Rattle.op_core.proofs.laws.thinning.skeleton_picks.Goals as goal

pub returns : goal.returns
returns _ = skeleton_picks
