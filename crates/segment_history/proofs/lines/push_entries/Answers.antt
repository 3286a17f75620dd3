use Rattle.segment_history.proofs.Appending.{appended}
use Rattle.segment_history.specs.Lines.{entry_lines}
use Rattle.segment_history.proofs.lines.push_entries.Goals as goal

pub loop-entry-preserved : goal.loop-entry-preserved
loop-entry-preserved c =
    appended entry_lines c.args.entries.now c.loop-entry.entry-index c.entry-item.result c.args.text.now.items c.loop-entry.text.items
    c.push_entry.new.text.items c.loop-entry-test.true c.entry-item.is c.in_ok-push_entry.ensures c.loop-entry.invariant
