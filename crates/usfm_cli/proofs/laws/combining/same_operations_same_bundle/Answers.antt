use Rattle.usfm_cli.proofs.CombinedLaws.{same_bundle}
use Rattle.usfm_cli.proofs.laws.combining.same_operations_same_bundle.Goals as goal

pub returns : goal.returns
returns _ = same_bundle
