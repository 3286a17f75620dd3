use Rattle.replica_state.proofs.World.Bytes.{cut_receivings_are_refused}
use Rattle.replica_state.proofs.laws.worlds.cut_receivings_are_refused.Goals as goal

pub returns : goal.returns
returns _ = cut_receivings_are_refused
