use Rattle.op_core.proofs.Sets.Groupings.{deltas_add}
use Rattle.op_core.proofs.laws.thinning.deltas_add.Goals as goal

pub returns : goal.returns
returns _ = deltas_add
