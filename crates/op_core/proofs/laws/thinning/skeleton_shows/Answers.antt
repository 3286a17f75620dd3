use Rattle.op_core.proofs.Sets.Groupings.{skeleton_shows}
use Rattle.op_core.proofs.laws.thinning.skeleton_shows.Goals as goal

pub returns : goal.returns
returns _ = skeleton_shows
