use Rattle.replica_state.proofs.World.Shows.{thinning_shows_nothing}
use Rattle.replica_state.proofs.laws.worlds.thinning_shows_nothing.Goals as goal

pub returns : goal.returns
returns _ = thinning_shows_nothing
