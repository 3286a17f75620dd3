use Rattle.op_core.proofs.ThinnedSets.StandIns.{shows_same}
use Rattle.op_core.proofs.laws.thinning.shows_same.Goals as goal

pub returns : goal.returns
returns _ = shows_same
