use Rattle.replica_state.proofs.Thinning.{thins_unseen}
use Rattle.replica_state.proofs.laws.thinning.thinning_is_unseen.Goals as goal

pub returns : goal.returns
returns _ s h = thins_unseen s h
