use Rattle.conflict_answers.proofs.Twice.{twice_is_once}
use Rattle.conflict_answers.proofs.laws.twice_is_once.Goals as goal

pub returns : goal.returns
returns c = twice_is_once
