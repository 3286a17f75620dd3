use Rattle.replica_state.proofs.World.Sets.{hold_sets}
use Rattle.replica_state.proofs.laws.worlds.worlds_hold_sets.Goals as goal

pub returns : goal.returns
returns _ = hold_sets
