use Rattle.std.proofs.Common.{[], ◌++◌, arith, ap, ◌∙◌}
use Rattle.std.specs.List.{flat_map}
use Rattle.std.proofs.lemmas.List.{take_all}
use Rattle.sync_changes.proofs.Listed.{appended}
use Rattle.segment_history.proofs.Listing.{ops_are}
use Rattle.sync_changes.specs.Changes.{removed_at}
use Rattle.sync_changes.specs.Loops.Parts.{removed_by}
use Rattle.sync_changes.proofs.Saying.{removed_is}
use Rattle.sync_changes.proofs.removed.removed_among.Goals as goal

pub loop-segment-preserved : goal.loop-segment-preserved
loop-segment-preserved c =
    appended (removed_at c.args.after.now c.args.files.now) c.args.segments.now
    c.loop-segment.segment-index c.segment-item.result [] c.loop-segment.made.items c.push_removed.new.made.items
    c.loop-segment-test.true c.segment-item.is
    (c.in_ok-push_removed.ensures
    ∙ ap (λ ops. c.loop-segment.made.items ++ removed_by ops c.args.files.now c.segment-item.result)
    (ops_are c.args.after.now c.args.segments.now c.in_ok-gathered.gathered c.in_ok-gathered.ensures
    c.loop-segment.segment-index c.segment-item.result c.loop-segment-test.true c.segment-item.is)
    ∙ ap (λ said. c.loop-segment.made.items ++ said)
    (removed_is c.args.after.now c.args.files.now c.segment-item.result))
    c.loop-segment.invariant

pub returns : goal.returns
returns c =
    c.loop-segment.invariant
    ∙ ap (flat_map (removed_at c.args.after.now c.args.files.now))
    (take_all c.loop-segment.segment-index c.args.segments.now (omega (arith, c.loop-segment-test.false)))
