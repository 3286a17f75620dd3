use Rattle.replica_state.proofs.DeltasJoined.{delta_joined}
use Rattle.replica_state.proofs.laws.deltas.deltas_give_union.Goals as goal

pub returns : goal.returns
returns _ own other s a b full h = delta_joined own other s a b full h
