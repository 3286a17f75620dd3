use Rattle.replica_state.proofs.World.Twins.{no_clash_here}
use Rattle.replica_state.proofs.laws.worlds.no_receiving_clashes.Goals as goal

pub returns : goal.returns
returns _ = no_clash_here
