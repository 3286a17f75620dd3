use Rattle.usfm_token.proofs.Seam.{tokens_join}
use Rattle.usfm_token.proofs.laws.tokens_join.Goals as goal

pub returns : goal.returns
returns c = tokens_join
