use Rattle.replica_state.proofs.World.Exact.{exact}
use Rattle.replica_state.proofs.laws.worlds.without_thinnings.Goals as goal

pub returns : goal.returns
returns _ = exact
