use Rattle.bundle_codec.proofs.OneSummary.{same_summary}
use Rattle.bundle_codec.proofs.laws.summaries.one_summary_of_a_set.Goals as goal

pub returns : goal.returns
returns _ held a b f g = same_summary held a b f g
