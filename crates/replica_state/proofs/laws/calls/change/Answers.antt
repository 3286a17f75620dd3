use Rattle.replica_state.specs.Changes.{changes_view}
use Rattle.replica_state.proofs.World.SinceEvents.{changing, change_counts}
use Rattle.replica_state.proofs.laws.calls.change.Goals as goal

pub returns-clause-events : goal.returns-clause-events
returns-clause-events c =
    changing c.args.replica.now c.change.new.self c.args.book (changes_view c.args.changes.now) c.change.result c.name.ensures.valid
    c.change.ensures.step

pub returns-clause-count : goal.returns-clause-count
returns-clause-count c =
    change_counts c.args.replica.now c.change.new.self c.args.book c.args.changes.now c.change.result c.change.ensures.step
