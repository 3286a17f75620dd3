use Rattle.segment_history.proofs.Changing.{changed_more}
use Rattle.segment_history.proofs.Listing.{ops_are}
use Rattle.segment_history.proofs.since.changes_of.Goals as goal

pub loop-segment-preserved : goal.loop-segment-preserved
loop-segment-preserved c =
    changed_more c.args.bundle.now c.args.known.now c.args.segments.now c.loop-segment.segment-index
    c.segment-item.result _ c.loop-segment.made.items c.push.new.self.items c.in_ok-change_in.field-0 c.loop-segment-test.true
    c.segment-item.is
    (ops_are c.args.bundle.now c.args.segments.now c.in_ok-gathered.gathered c.in_ok-gathered.ensures.has
    c.loop-segment.segment-index c.segment-item.result c.loop-segment-test.true c.segment-item.is)
    c.in_ok-change_in.ensures c.in_ok-push.ensures.items c.loop-segment.invariant
