use Rattle.op_core.proofs.Sets.Groupings.{stand_ins_join}
use Rattle.op_core.proofs.laws.thinning.stand_ins_join.Goals as goal

pub returns : goal.returns
returns _ = stand_ins_join
