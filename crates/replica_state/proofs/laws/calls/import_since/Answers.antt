use Rattle.replica_state.proofs.World.SinceEvents.{importing, import_counts}
use Rattle.replica_state.proofs.laws.calls.import_since.Goals as goal

pub returns-clause-events : goal.returns-clause-events
returns-clause-events c =
    importing c.args.replica.now c.args.base.now c.args.file.now c.name.ensures.valid c.ops.ensures.set c.import_since.new.self
    c.import_since.result c.import_since.ensures.step

pub returns-clause-count : goal.returns-clause-count
returns-clause-count c =
    import_counts c.args.replica.now c.args.base.now c.args.file.now c.import_since.new.self c.import_since.result
    c.import_since.ensures.step
