use Rattle.op_core.proofs.Sets.Legal.{pick_full}
use Rattle.op_core.proofs.laws.thinning.pick_is_full.Goals as goal

pub returns : goal.returns
returns _ = pick_full
