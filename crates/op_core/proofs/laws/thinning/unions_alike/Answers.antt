use Rattle.op_core.proofs.Sets.Families.{unions_alike}
use Rattle.op_core.proofs.laws.thinning.unions_alike.Goals as goal

pub returns : goal.returns
returns _ = unions_alike
