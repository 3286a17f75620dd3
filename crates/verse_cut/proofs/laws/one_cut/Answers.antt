use Rattle.verse_cut.proofs.CutLaws.{one_cut}
use Rattle.verse_cut.proofs.laws.one_cut.Goals as goal

pub returns : goal.returns
returns c = one_cut
