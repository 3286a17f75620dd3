use Rattle.op_core.proofs.ThinnedSets.StandIns.{join_stands}
use Rattle.op_core.proofs.laws.thinning.join_stands.Goals as goal

pub returns : goal.returns
returns _ = join_stands
