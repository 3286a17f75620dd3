use Rattle.replica_state.proofs.World.Exchanges.{awaits_none}
use Rattle.replica_state.proofs.laws.worlds.holds_all_awaits_none.Goals as goal

pub returns : goal.returns
returns _ = awaits_none
