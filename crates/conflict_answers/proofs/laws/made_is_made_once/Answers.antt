use Rattle.conflict_answers.proofs.Settlings.{made_is_made_once}
use Rattle.conflict_answers.proofs.laws.made_is_made_once.Goals as goal

pub returns : goal.returns
returns c = made_is_made_once
