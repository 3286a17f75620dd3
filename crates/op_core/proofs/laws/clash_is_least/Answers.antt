use Rattle.op_core.proofs.Sets.Clashes.{clash_is}
use Rattle.op_core.proofs.laws.clash_is_least.Goals as goal

pub returns : goal.returns
returns _ a b id ha hb h = clash_is a b id hb.rising h
