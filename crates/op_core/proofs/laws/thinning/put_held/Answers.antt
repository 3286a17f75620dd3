use Rattle.op_core.proofs.Sets.Union.{put_held}
use Rattle.op_core.proofs.laws.thinning.put_held.Goals as goal

pub returns : goal.returns
returns _ held p o h g _ f = put_held o p held h g f
