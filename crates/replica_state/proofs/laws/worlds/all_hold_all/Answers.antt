use Rattle.replica_state.proofs.World.Exchanges.{all_hold_all}
use Rattle.replica_state.proofs.laws.worlds.all_hold_all.Goals as goal

pub returns : goal.returns
returns _ = all_hold_all
