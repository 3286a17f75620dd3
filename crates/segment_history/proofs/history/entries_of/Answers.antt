use Rattle.segment_history.proofs.Listing.{entry_more}
use Rattle.segment_history.proofs.history.entries_of.Goals as goal

pub loop-id-preserved : goal.loop-id-preserved
loop-id-preserved c =
    entry_more c.args.ops.now c.deref-id-items.result.now c.loop-id.id-index c.id-item.result c.in_ok-texts.texts
    c.in_ok-replacers.replacers c.loop-id.entries.items c.push.new.self.items c.in_ok-entry_at.field-0 c.loop-id-test.true c.id-item.is
    c.in_ok-texts.ensures c.in_ok-replacers.ensures c.in_ok-entry_at.ensures c.in_ok-push.ensures.items c.loop-id.invariant
