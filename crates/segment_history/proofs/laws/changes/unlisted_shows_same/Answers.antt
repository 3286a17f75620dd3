use Rattle.segment_history.proofs.Changing.{unlisted_shows_same}
use Rattle.segment_history.proofs.laws.changes.unlisted_shows_same.Goals as goal

pub returns : goal.returns
returns c = unlisted_shows_same
