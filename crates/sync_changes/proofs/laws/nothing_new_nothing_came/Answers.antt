use Rattle.sync_changes.proofs.Unlisted.{nothing_new_nothing_came}
use Rattle.sync_changes.proofs.laws.nothing_new_nothing_came.Goals as goal

pub returns : goal.returns
returns c = nothing_new_nothing_came
