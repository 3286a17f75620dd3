use Rattle.replica_state.proofs.SinceLaws.{unchanged_files_add_nothing}
use Rattle.replica_state.proofs.laws.since.unchanged_files_add_nothing.Goals as goal

pub returns : goal.returns
returns c = unchanged_files_add_nothing
