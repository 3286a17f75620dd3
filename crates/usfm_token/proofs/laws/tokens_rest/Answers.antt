use Rattle.usfm_token.proofs.Seam.{tokens_rest}
use Rattle.usfm_token.proofs.laws.tokens_rest.Goals as goal

pub returns : goal.returns
returns c = tokens_rest
