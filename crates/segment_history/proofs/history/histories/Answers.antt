use Rattle.segment_history.proofs.Listing.{gathered_rises, history_more}
use Rattle.segment_history.proofs.history.histories.Goals as goal

pub history_in-requires : goal.history_in-requires
history_in-requires c =
    gathered_rises c.args.bundle.now c.args.segments.now c.in_ok-gathered.gathered c.in_ok-gathered.ensures.has
    c.loop-segment.segment-index c.segment-item.result c.loop-segment-test.true c.segment-item.is c.in_ok-gathered.ensures.rising

pub loop-segment-preserved : goal.loop-segment-preserved
loop-segment-preserved c =
    history_more c.args.bundle.now c.args.segments.now c.in_ok-gathered.gathered c.in_ok-gathered.ensures.has
    c.loop-segment.segment-index c.segment-item.result c.loop-segment-test.true c.segment-item.is
    c.in_ok-awaited.awaited c.in_ok-awaited.ensures
    c.loop-segment.made.items c.push.new.self.items c.in_ok-history_in.field-0 c.in_ok-history_in.ensures
    c.in_ok-push.ensures.items c.loop-segment.invariant
