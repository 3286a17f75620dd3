use Rattle.replica_state.proofs.ChangeLists.{no_more_fault, fault_here}
use Rattle.replica_state.proofs.replica.Replica.first_fault.Goals as goal

pub returns-in-Some : goal.returns-in-Some
returns-in-Some c =
    fault_here c.args.self.now.held c.args.book c.args.changes.now c.loop-change.change-index c.change-item.result
    c.loop-change-test.true c.change-item.is c.loop-change.invariant c.in-Some.fault c.in-Some.ensures

pub loop-change-preserved : goal.loop-change-preserved
loop-change-preserved c =
    no_more_fault c.args.self.now.held c.args.book c.args.changes.now c.loop-change.change-index c.change-item.result
    c.loop-change-test.true c.change-item.is c.loop-change.invariant c.in_default.ensures
