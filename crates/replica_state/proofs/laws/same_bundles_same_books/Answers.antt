use Rattle.std.proofs.Common.{List, ap}
use Rattle.op_core.specs.Ops.{Operation}
use Rattle.op_core.specs.Export.{export}
use Rattle.replica_state.proofs.Runs.{same_held}
use Rattle.replica_state.proofs.laws.same_bundles_same_books.Goals as goal

pub returns : goal.returns
returns _ name other bundles others s t same ha hb =
    let e = same_held name other bundles others s t same ha hb in
    (e, λ book. ap (λ (held : List Operation). export held book) e)
