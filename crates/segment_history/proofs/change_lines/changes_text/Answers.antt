use Rattle.std.proofs.Common.{[]}
use Rattle.segment_history.specs.ChangeLines.{changed_lines}
use Rattle.segment_history.proofs.Appending.{appended}
use Rattle.segment_history.proofs.change_lines.changes_text.Goals as goal

pub loop-changed-preserved : goal.loop-changed-preserved
loop-changed-preserved c =
    appended (changed_lines c.args.texts) c.args.changes.now c.loop-changed.changed-index c.changed-item.result []
    c.loop-changed.text.items c.push_changed.new.text.items c.loop-changed-test.true c.changed-item.is c.in_ok-push_changed.ensures
    c.loop-changed.invariant
