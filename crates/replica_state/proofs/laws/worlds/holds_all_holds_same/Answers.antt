use Rattle.replica_state.proofs.World.Exchanges.{hold_same}
use Rattle.replica_state.proofs.laws.worlds.holds_all_holds_same.Goals as goal

pub returns : goal.returns
returns _ = hold_same
