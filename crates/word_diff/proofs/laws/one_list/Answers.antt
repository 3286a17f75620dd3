use Rattle.word_diff.proofs.WordLaws.{one_list}
use Rattle.word_diff.proofs.laws.one_list.Goals as goal

pub returns : goal.returns
returns c = one_list
