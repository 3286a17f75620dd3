use Rattle.replica_state.proofs.World.Exchanges.{can_be_heard}
use Rattle.replica_state.proofs.laws.worlds.can_be_heard.Goals as goal

pub returns : goal.returns
returns _ = can_be_heard
