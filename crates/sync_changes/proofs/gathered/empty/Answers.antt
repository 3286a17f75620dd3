use Rattle.segment_history.proofs.Gathers.{put_segment}
use Rattle.sync_changes.proofs.gathered.empty.Goals as goal

pub loop-segment-preserved : goal.loop-segment-preserved
loop-segment-preserved c =
    put_segment c.args.segments.now c.loop-segment.segment-index c.segment-item.result c.loop-segment.made c.insert.new.self
    c.new.result c.loop-segment-test.true c.segment-item.is c.new.ensures.items c.in_ok-insert.ensures.updates.0
    c.loop-segment.invariant
