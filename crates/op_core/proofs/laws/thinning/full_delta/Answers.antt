use Rattle.op_core.proofs.Sets.Legal.{full_delta}
use Rattle.op_core.proofs.laws.thinning.full_delta.Goals as goal

pub returns : goal.returns
returns _ = full_delta
