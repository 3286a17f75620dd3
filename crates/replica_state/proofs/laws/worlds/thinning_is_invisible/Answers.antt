use Rattle.replica_state.proofs.World.Twins.{twins}
use Rattle.replica_state.proofs.laws.worlds.thinning_is_invisible.Goals as goal

pub returns : goal.returns
returns _ = λ events. (twins events).stands
