use Rattle.usfm_cli.proofs.SummariesRead.{delta_answers}
use Rattle.usfm_cli.proofs.laws.deltas.deltas_answer_summaries.Goals as goal

pub returns : goal.returns
returns _ file other s t asked own theirs state wrote short = delta_answers file other s t asked own theirs state wrote short
