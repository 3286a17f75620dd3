use Rattle.op_core.proofs.Sets.Legal.{join_legal}
use Rattle.op_core.proofs.Sets.Union.{agree_from_no_clash}
use Rattle.op_core.proofs.laws.thinning.join_is_legal.Goals as goal

pub returns : goal.returns
returns _ = λ a b ha hb la lb n. join_legal a b ha hb la lb (agree_from_no_clash a b n)
