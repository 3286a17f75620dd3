use Rattle.replica_state.proofs.SinceTwice.{twice_is_once}
use Rattle.replica_state.proofs.laws.since.twice_is_once.Goals as goal

pub returns : goal.returns
returns c = twice_is_once
