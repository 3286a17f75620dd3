use Rattle.conflict_settling.proofs.Listed.{settles_all}
use Rattle.conflict_settling.proofs.laws.settles_all.Goals as goal

pub returns : goal.returns
returns c = settles_all
