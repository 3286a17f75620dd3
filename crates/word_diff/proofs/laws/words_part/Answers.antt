use Rattle.word_diff.proofs.WordLaws.{words_part}
use Rattle.word_diff.proofs.laws.words_part.Goals as goal

pub returns : goal.returns
returns c = words_part
