use Rattle.op_core.proofs.Sets.Agreement.{agree-from}
use Rattle.op_core.proofs.Sets.Union.{agree_from_no_clash}
use Rattle.op_core.proofs.laws.no_clash_agrees.Goals as goal

pub returns : goal.returns
returns _ a b ha hb h id o p there here = agree-from o p (agree_from_no_clash a b h id o p there here)
