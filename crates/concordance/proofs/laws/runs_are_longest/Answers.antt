use Rattle.concordance.proofs.RunLaws.{runs_are_longest}
use Rattle.concordance.proofs.laws.runs_are_longest.Goals as goal

pub returns : goal.returns
returns c = runs_are_longest
