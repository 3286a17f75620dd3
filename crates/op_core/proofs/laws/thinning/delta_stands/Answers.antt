use Rattle.op_core.proofs.ThinnedSets.StandIns.{delta_stands}
use Rattle.op_core.proofs.laws.thinning.delta_stands.Goals as goal

pub returns : goal.returns
returns _ = delta_stands
