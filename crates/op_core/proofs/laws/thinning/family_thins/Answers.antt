use Rattle.op_core.proofs.Sets.Families.{family_thins}
use Rattle.op_core.proofs.laws.thinning.family_thins.Goals as goal

pub returns : goal.returns
returns _ = family_thins
