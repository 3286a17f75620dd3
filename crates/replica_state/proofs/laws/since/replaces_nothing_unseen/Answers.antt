use Rattle.replica_state.proofs.SinceLaws.{replaces_nothing_unseen}
use Rattle.replica_state.proofs.laws.since.replaces_nothing_unseen.Goals as goal

pub returns : goal.returns
returns c = replaces_nothing_unseen
