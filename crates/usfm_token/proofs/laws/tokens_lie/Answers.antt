use Rattle.usfm_token.proofs.Slices.{tokens_lie}
use Rattle.usfm_token.proofs.laws.tokens_lie.Goals as goal

pub returns : goal.returns
returns c = tokens_lie
