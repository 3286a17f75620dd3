use Rattle.replica_state.proofs.ThinnedRuns.{gives_union}
use Rattle.replica_state.proofs.laws.thinning.thinned_deltas_give_union.Goals as goal

pub returns : goal.returns
returns _ family own other s ho ht h = gives_union family own other s ho ht h
