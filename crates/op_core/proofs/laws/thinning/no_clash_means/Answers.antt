use Rattle.op_core.proofs.Sets.NoClash.{no_clash_as}
use Rattle.op_core.proofs.laws.thinning.no_clash_means.Goals as goal

pub returns : goal.returns
returns _ = no_clash_as
