use Rattle.usfm_token.proofs.Slices.{one_spelling}
use Rattle.usfm_token.proofs.laws.one_spelling.Goals as goal

pub returns : goal.returns
returns c = one_spelling
