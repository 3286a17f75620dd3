use Rattle.replica_state.proofs.ChangeRuns.{changes_are_edits}
use Rattle.replica_state.proofs.laws.changes.changes_are_edits.Goals as goal

pub returns : goal.returns
returns c = changes_are_edits
