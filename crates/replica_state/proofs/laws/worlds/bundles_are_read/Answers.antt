use Rattle.replica_state.proofs.World.Bytes.{bundles_are_read}
use Rattle.replica_state.proofs.laws.worlds.bundles_are_read.Goals as goal

pub returns : goal.returns
returns _ = bundles_are_read
