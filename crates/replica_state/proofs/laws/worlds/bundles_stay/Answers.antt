use Rattle.replica_state.proofs.World.Flights.{bundles_stay}
use Rattle.replica_state.proofs.laws.worlds.bundles_stay.Goals as goal

pub returns : goal.returns
returns _ = bundles_stay
