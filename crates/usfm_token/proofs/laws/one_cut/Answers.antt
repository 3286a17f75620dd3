use Rattle.usfm_token.proofs.TokenLaws.{one_cut}
use Rattle.usfm_token.proofs.laws.one_cut.Goals as goal

pub returns : goal.returns
returns c = one_cut
