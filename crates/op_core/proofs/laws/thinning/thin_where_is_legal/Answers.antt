use Rattle.op_core.proofs.ThinnedSets.TwoSteps.{where_legal}
use Rattle.op_core.proofs.laws.thinning.thin_where_is_legal.Goals as goal

pub returns : goal.returns
returns _ = λ s p h l past. where_legal p s h l past
