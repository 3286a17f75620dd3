use Rattle.replica_state.proofs.World.Exchanges.{deltas_join}
use Rattle.replica_state.proofs.laws.worlds.deltas_join.Goals as goal

pub returns : goal.returns
returns _ = deltas_join
