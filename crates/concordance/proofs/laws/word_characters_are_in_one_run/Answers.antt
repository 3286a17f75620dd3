use Rattle.concordance.proofs.RunLaws.{word_characters_are_in_one_run}
use Rattle.concordance.proofs.laws.word_characters_are_in_one_run.Goals as goal

pub returns : goal.returns
returns c = word_characters_are_in_one_run
