use Rattle.replica_state.proofs.OwnExports.{own_exports_add_nothing}
use Rattle.replica_state.proofs.laws.imports.own_exports_add_nothing.Goals as goal

pub returns : goal.returns
returns c = own_exports_add_nothing
