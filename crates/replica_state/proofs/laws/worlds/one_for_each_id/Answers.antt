use Rattle.replica_state.proofs.World.Moments.{one_for_each}
use Rattle.replica_state.proofs.laws.worlds.one_for_each_id.Goals as goal

pub returns : goal.returns
returns _ = one_for_each
