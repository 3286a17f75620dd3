use Rattle.sync_changes.proofs.Listed.{inserted_more, inserted_all}
use Rattle.sync_changes.proofs.shown.insert_named.Goals as goal

pub loop-id-preserved : goal.loop-id-preserved
loop-id-preserved c =
    inserted_more c.args.op.now.replaced c.loop-id.id-iterator c.next.new.self c.in-Some.id c.args.ids.now c.loop-id.ids
    c.insert.new.self c.in-Some.ensures.steps c.in_ok-insert.ensures.updates.0 c.loop-id.invariant

pub returns : goal.returns
returns c = inserted_all c.args.op.now c.loop-id.id-iterator c.args.ids.now c.loop-id.ids c.in-None.ensures.steps.0 c.loop-id.invariant
