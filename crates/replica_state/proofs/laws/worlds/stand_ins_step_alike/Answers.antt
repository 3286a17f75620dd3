use Rattle.replica_state.proofs.World.Shows.{acts_for}
use Rattle.replica_state.proofs.laws.worlds.stand_ins_step_alike.Goals as goal

pub returns : goal.returns
returns _ = acts_for
