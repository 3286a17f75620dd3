use Rattle.replica_state.proofs.World.Moments.{the_twin}
use Rattle.replica_state.proofs.World.Runs.{made_once}
use Rattle.replica_state.proofs.laws.worlds.made_once.Goals as goal

pub returns : goal.returns
returns _ = made_once the_twin
