use Rattle.op_core.proofs.ThinnedSets.StandIns.{filter_stands}
use Rattle.op_core.proofs.laws.thinning.filter_stands.Goals as goal

pub returns : goal.returns
returns _ = filter_stands
