use Rattle.usfm_token.proofs.Seam.{tokens_part}
use Rattle.usfm_token.proofs.laws.tokens_part.Goals as goal

pub returns : goal.returns
returns c = tokens_part
