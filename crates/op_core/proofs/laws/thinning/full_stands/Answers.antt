use Rattle.op_core.proofs.ThinnedSets.StandIns.{full_stands}
use Rattle.op_core.proofs.laws.thinning.full_stands.Goals as goal

pub returns : goal.returns
returns _ = full_stands
