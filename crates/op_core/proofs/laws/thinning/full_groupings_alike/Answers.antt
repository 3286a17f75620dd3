use Rattle.op_core.proofs.Sets.Groupings.{groupings_alike}
use Rattle.op_core.proofs.laws.thinning.full_groupings_alike.Goals as goal

pub returns : goal.returns
returns _ = groupings_alike
