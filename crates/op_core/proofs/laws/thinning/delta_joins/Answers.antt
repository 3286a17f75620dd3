use Rattle.op_core.proofs.Sets.Groupings.{delta_joins}
use Rattle.op_core.proofs.laws.thinning.delta_joins.Goals as goal

pub returns : goal.returns
returns _ = delta_joins
