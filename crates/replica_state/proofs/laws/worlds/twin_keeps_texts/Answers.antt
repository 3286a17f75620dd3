use Rattle.replica_state.proofs.World.Exact.{twin_keeps}
use Rattle.replica_state.proofs.laws.worlds.twin_keeps_texts.Goals as goal

pub returns : goal.returns
returns _ = twin_keeps
