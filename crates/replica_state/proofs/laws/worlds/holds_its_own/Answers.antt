use Rattle.replica_state.proofs.World.Moments.{holds_own}
use Rattle.replica_state.proofs.laws.worlds.holds_its_own.Goals as goal

pub returns : goal.returns
returns _ = holds_own
