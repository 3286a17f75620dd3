use Rattle.op_core.proofs.Sets.Legal.{thin_again}
use Rattle.op_core.proofs.laws.thinning.thin_once.Goals as goal

pub returns : goal.returns
returns _ = thin_again
