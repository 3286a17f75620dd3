use Rattle.replica_state.proofs.World.Shows.{all_agree_in_the_end}
use Rattle.replica_state.proofs.laws.worlds.all_agree_in_the_end.Goals as goal

pub returns : goal.returns
returns _ = all_agree_in_the_end
