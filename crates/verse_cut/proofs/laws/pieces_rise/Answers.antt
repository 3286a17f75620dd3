use Rattle.verse_cut.proofs.CutLaws.{pieces_rise}
use Rattle.verse_cut.proofs.laws.pieces_rise.Goals as goal

pub returns : goal.returns
returns c = pieces_rise
