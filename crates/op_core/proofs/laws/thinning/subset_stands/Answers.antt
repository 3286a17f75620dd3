use Rattle.op_core.proofs.ThinnedSets.StandIns.{subset_stands}
use Rattle.op_core.proofs.laws.thinning.subset_stands.Goals as goal

pub returns : goal.returns
returns _ = subset_stands
