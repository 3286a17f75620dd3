use Rattle.usfm_cli.proofs.Headline.{same_bytes}
use Rattle.usfm_cli.proofs.laws.headline.same_operations_same_bytes.Goals as goal

pub returns : goal.returns
returns _ = same_bytes
