use Rattle.replica_state.proofs.World.Exchanges.{relay_tells}
use Rattle.replica_state.proofs.laws.worlds.relay_tells.Goals as goal

pub returns : goal.returns
returns _ = relay_tells
