use Rattle.op_core.proofs.Sets.Families.{stands_of}
use Rattle.op_core.proofs.laws.thinning.family_of_whole.Goals as goal

pub returns : goal.returns
returns _ = stands_of
