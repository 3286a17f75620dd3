use Rattle.op_core.proofs.Sets.Groupings.{skeleton_exports}
use Rattle.op_core.proofs.laws.thinning.skeleton_exports.Goals as goal

pub returns : goal.returns
returns _ = skeleton_exports
