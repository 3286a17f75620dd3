use Rattle.op_core.proofs.Sets.Legal.{shown_full}
use Rattle.op_core.proofs.laws.thinning.shown_are_full.Goals as goal

pub returns : goal.returns
returns _ = shown_full
