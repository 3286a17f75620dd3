use Rattle.op_core.proofs.Sets.Legal.{delta_legal}
use Rattle.op_core.proofs.laws.thinning.delta_is_legal.Goals as goal

pub returns : goal.returns
returns _ = delta_legal
