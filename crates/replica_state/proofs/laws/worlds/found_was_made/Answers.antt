use Rattle.replica_state.proofs.World.Moments.{found_was_made}
use Rattle.replica_state.proofs.laws.worlds.found_was_made.Goals as goal

pub returns : goal.returns
returns _ = found_was_made
