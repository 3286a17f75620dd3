use Rattle.replica_state.proofs.SinceLaws.{unseen_stays}
use Rattle.replica_state.proofs.laws.since.unseen_stays.Goals as goal

pub returns : goal.returns
returns c = unseen_stays
