use Rattle.sync_changes.proofs.Unlisted.{unlisted_shows_same}
use Rattle.sync_changes.proofs.laws.unlisted_shows_same.Goals as goal

pub returns : goal.returns
returns c = unlisted_shows_same
