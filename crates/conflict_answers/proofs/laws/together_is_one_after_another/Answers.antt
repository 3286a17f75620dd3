use Rattle.conflict_answers.proofs.Tellings.{together_is_one_after_another}
use Rattle.conflict_answers.proofs.laws.together_is_one_after_another.Goals as goal

pub returns : goal.returns
returns c = together_is_one_after_another
