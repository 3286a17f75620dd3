use Rattle.verse_cut.proofs.CutLaws.{pieces_lie}
use Rattle.verse_cut.proofs.laws.pieces_lie.Goals as goal

pub returns : goal.returns
returns c = pieces_lie
