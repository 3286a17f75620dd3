use Rattle.replica_state.specs.World.{world}
use Rattle.replica_state.proofs.World.Next.{made_next}
use Rattle.replica_state.proofs.laws.worlds.made_rise.Goals as goal

pub returns : goal.returns
returns _ = λ past e. (made_next (world past) e).rising
