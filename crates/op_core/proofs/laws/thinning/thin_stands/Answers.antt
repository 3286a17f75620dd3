use Rattle.op_core.proofs.ThinnedSets.StandIns.{thin_stands}
use Rattle.op_core.proofs.laws.thinning.thin_stands.Goals as goal

pub returns : goal.returns
returns _ = thin_stands
