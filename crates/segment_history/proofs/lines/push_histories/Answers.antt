use Rattle.segment_history.specs.Lines.{history_lines}
use Rattle.segment_history.proofs.Appending.{appended}
use Rattle.segment_history.proofs.lines.push_histories.Goals as goal

pub loop-history-preserved : goal.loop-history-preserved
loop-history-preserved c =
    appended history_lines c.args.told.now c.loop-history.history-index c.history-item.result c.args.text.now.items
    c.loop-history.text.items c.push_history.new.text.items c.loop-history-test.true c.history-item.is c.in_ok-push_history.ensures
    c.loop-history.invariant
