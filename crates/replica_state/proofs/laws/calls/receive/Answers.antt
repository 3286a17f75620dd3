use Rattle.replica_state.proofs.World.Calls.{never_clashes}
use Rattle.replica_state.proofs.laws.calls.receive.Goals as goal

pub returns-clause-never : goal.returns-clause-never
returns-clause-never c = never_clashes c.args.bundle.now c.args.replica.now c.receive.result c.receive.ensures.refused
