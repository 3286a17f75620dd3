use Rattle.op_core.proofs.ThinnedSets.Alike.{picks_same}
use Rattle.op_core.proofs.laws.thinning.picks_same.Goals as goal

pub returns : goal.returns
returns _ = λ s u g h. picks_same s u h g
