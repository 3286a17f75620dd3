use Rattle.bundle_codec.proofs.Told.{summary_of_is}
use Rattle.bundle_codec.proofs.laws.summaries.summary_covers_its_ids.Goals as goal

pub returns : goal.returns
returns _ held set = summary_of_is held set
