use Rattle.verse_cut.proofs.MarkLaws.{cut_is_read}
use Rattle.verse_cut.proofs.laws.cut_is_read.Goals as goal

pub returns : goal.returns
returns c = cut_is_read
