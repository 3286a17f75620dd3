use Rattle.segment_history.proofs.Changing.{nothing_since_own}
use Rattle.segment_history.proofs.laws.changes.nothing_since_own.Goals as goal

pub returns : goal.returns
returns c = nothing_since_own
