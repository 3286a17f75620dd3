use Rattle.replica_state.proofs.World.Shows.{edits_are_the_same}
use Rattle.replica_state.proofs.laws.worlds.edits_are_the_same.Goals as goal

pub returns : goal.returns
returns _ = edits_are_the_same
