use Rattle.replica_state.proofs.World.Shows.{replies_are_the_same}
use Rattle.replica_state.proofs.laws.worlds.replies_are_the_same.Goals as goal

pub returns : goal.returns
returns _ = replies_are_the_same
