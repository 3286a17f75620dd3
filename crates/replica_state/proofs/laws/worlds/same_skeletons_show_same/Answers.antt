use Rattle.replica_state.proofs.World.Shows.{show_same}
use Rattle.replica_state.proofs.laws.worlds.same_skeletons_show_same.Goals as goal

pub returns : goal.returns
returns _ = show_same
