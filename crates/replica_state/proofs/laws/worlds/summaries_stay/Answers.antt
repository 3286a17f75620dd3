use Rattle.replica_state.proofs.World.Flights.{summaries_stay}
use Rattle.replica_state.proofs.laws.worlds.summaries_stay.Goals as goal

pub returns : goal.returns
returns _ = summaries_stay
