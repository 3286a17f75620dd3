use Rattle.replica_state.proofs.World.Moments.{shown_in_the_end}
use Rattle.replica_state.proofs.laws.worlds.shown_in_the_end.Goals as goal

pub returns : goal.returns
returns _ = shown_in_the_end
