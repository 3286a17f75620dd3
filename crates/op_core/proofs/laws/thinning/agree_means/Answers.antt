use Rattle.op_core.proofs.Sets.Agreement.{agrees_as}
use Rattle.op_core.proofs.laws.thinning.agree_means.Goals as goal

pub returns : goal.returns
returns _ = agrees_as
