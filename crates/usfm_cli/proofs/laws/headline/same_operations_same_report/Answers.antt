use Rattle.usfm_cli.proofs.Headline.{same_report}
use Rattle.usfm_cli.proofs.laws.headline.same_operations_same_report.Goals as goal

pub returns : goal.returns
returns _ = same_report
