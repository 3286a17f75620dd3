use Rattle.bundle_codec.proofs.SummaryWholes.{one_summary}
use Rattle.bundle_codec.proofs.laws.summaries.one_spelling_of_a_summary.Goals as goal

pub returns : goal.returns
returns _ a b f g short e = one_summary a b f g short e
