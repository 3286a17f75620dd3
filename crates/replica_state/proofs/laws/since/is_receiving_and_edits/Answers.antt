use Rattle.replica_state.proofs.SinceBegun.{is_receiving_and_edits}
use Rattle.replica_state.proofs.laws.since.is_receiving_and_edits.Goals as goal

pub returns : goal.returns
returns c = is_receiving_and_edits
