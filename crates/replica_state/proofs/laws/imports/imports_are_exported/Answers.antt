use Rattle.replica_state.proofs.Exports.{imports_are_exported}
use Rattle.replica_state.proofs.laws.imports.imports_are_exported.Goals as goal

pub returns : goal.returns
returns c = imports_are_exported
