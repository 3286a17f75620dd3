use Rattle.usfm_cli.proofs.CombinedLaws.{stands_for}
use Rattle.usfm_cli.proofs.laws.combining.combined_stands_for_them.Goals as goal

pub returns : goal.returns
returns _ = stands_for
