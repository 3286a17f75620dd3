use Rattle.usfm_cli.proofs.SummariesRead.{summary_again}
use Rattle.usfm_cli.proofs.laws.deltas.summaries_are_read.Goals as goal

pub returns : goal.returns
returns _ held set short = summary_again held set short
