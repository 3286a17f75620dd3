use Rattle.replica_state.proofs.SinceImports.{is_import_where_nothing_came}
use Rattle.replica_state.proofs.laws.since.is_import_where_nothing_came.Goals as goal

pub returns : goal.returns
returns c = is_import_where_nothing_came
