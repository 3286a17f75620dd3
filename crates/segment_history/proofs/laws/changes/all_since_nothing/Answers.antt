use Rattle.segment_history.proofs.Changing.{all_since_nothing}
use Rattle.segment_history.proofs.laws.changes.all_since_nothing.Goals as goal

pub returns : goal.returns
returns c = all_since_nothing
