use Rattle.sync_changes.proofs.Olds.{absent_more}
use Rattle.sync_changes.proofs.older.shown_in_olds.Goals as goal

pub loop-old-preserved : goal.loop-old-preserved
loop-old-preserved c =
    absent_more c.args.segment.now c.args.olds.now c.loop-old.old-index c.old-item.result c.loop-old.sets.items
    c.push_shown.new.sets.items c.loop-old-test.true c.old-item.is c.in_ok-push_shown.ensures c.loop-old.invariant
