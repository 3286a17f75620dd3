use Rattle.replica_state.proofs.World.Calls.{others_stay}
use Rattle.replica_state.proofs.laws.worlds.others_stay.Goals as goal

pub returns : goal.returns
returns _ = others_stay
