use Rattle.replica_state.proofs.World.Exchanges.{deltas_join_in_turn}
use Rattle.replica_state.proofs.laws.worlds.deltas_join_in_turn.Goals as goal

pub returns : goal.returns
returns _ = deltas_join_in_turn
