use Rattle.replica_state.proofs.World.Exchanges.{any_bundle_tells}
use Rattle.replica_state.proofs.laws.worlds.any_bundle_tells.Goals as goal

pub returns : goal.returns
returns _ = any_bundle_tells
