use Rattle.std.proofs.Common.{◌≡◌, ℕ, List, OnOk, subst}
use Rattle.sync_changes.proofs.Listed.{appended}
use Rattle.sync_changes.specs.Lines.{removed_line}
use Rattle.sync_changes.proofs.FewLines.{few_told}
use Rattle.sync_changes.proofs.lines.push_removed.Goals as goal

pub loop-segment-preserved : goal.loop-segment-preserved
loop-segment-preserved c =
    appended removed_line c.first_few-few.result.now c.loop-segment.segment-index c.segment-item.result c.args.text.now.items
    c.loop-segment.text.items c.push_line.new.text.items c.loop-segment-test.true c.segment-item.is c.in_ok-push_line.ensures
    c.loop-segment.invariant

pub returns : goal.returns
returns c =
    subst (λ (told : List ℕ). OnOk c.push_more.result (c.push_more.new.text.items ≡ told))
    (few_told removed_line c.args.segments.now c.first_few-few.result.now c.loop-segment.segment-index c.args.text.now.items
    c.loop-segment.text.items c.loop-segment-test.false c.first_few-few.ensures c.loop-segment.invariant)
    c.push_more.ensures
