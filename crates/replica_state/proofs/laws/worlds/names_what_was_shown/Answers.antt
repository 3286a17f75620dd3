use Rattle.replica_state.proofs.World.Next.{names_shown}
use Rattle.replica_state.proofs.laws.worlds.names_what_was_shown.Goals as goal

pub returns : goal.returns
returns _ = names_shown
