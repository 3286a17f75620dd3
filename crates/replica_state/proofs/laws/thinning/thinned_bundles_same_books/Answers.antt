use Rattle.replica_state.proofs.ThinnedRuns.{run_alike}
use Rattle.replica_state.proofs.laws.thinning.thinned_bundles_same_books.Goals as goal

pub returns : goal.returns
returns _ family name other commands others hc ho same = run_alike family name other commands others hc ho same
