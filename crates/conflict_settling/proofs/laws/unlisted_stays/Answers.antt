use Rattle.conflict_settling.proofs.Listed.{unlisted_stays}
use Rattle.conflict_settling.proofs.laws.unlisted_stays.Goals as goal

pub returns : goal.returns
returns c = unlisted_stays
