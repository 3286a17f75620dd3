use Rattle.op_core.proofs.Sets.Families.{family_joins}
use Rattle.op_core.proofs.laws.thinning.family_joins.Goals as goal

pub returns : goal.returns
returns _ = family_joins
