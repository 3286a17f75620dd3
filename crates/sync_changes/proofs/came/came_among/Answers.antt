use Rattle.std.proofs.Common.{[], ◌++◌, arith, ap, ◌∙◌}
use Rattle.std.specs.List.{flat_map}
use Rattle.std.proofs.lemmas.List.{take_all}
use Rattle.bundle_codec.specs.Summaries.{covers}
use Rattle.sync_changes.proofs.Listed.{appended}
use Rattle.segment_history.proofs.Listing.{ops_are}
use Rattle.sync_changes.specs.Changes.{came_at}
use Rattle.sync_changes.specs.Loops.Parts.{came_by}
use Rattle.sync_changes.proofs.Saying.{came_is}
use Rattle.sync_changes.proofs.came.came_among.Goals as goal

pub loop-segment-preserved : goal.loop-segment-preserved
loop-segment-preserved c =
    appended (came_at c.args.after.now (covers c.args.known.now) c.args.files.now) c.args.segments.now
    c.loop-segment.segment-index c.segment-item.result [] c.loop-segment.made.items c.push_came.new.made.items
    c.loop-segment-test.true c.segment-item.is
    (c.in_ok-push_came.ensures
    ∙ ap (λ ops. c.loop-segment.made.items ++ came_by ops (covers c.args.known.now) c.args.files.now c.segment-item.result)
    (ops_are c.args.after.now c.args.segments.now c.in_ok-gathered.gathered c.in_ok-gathered.ensures
    c.loop-segment.segment-index c.segment-item.result c.loop-segment-test.true c.segment-item.is)
    ∙ ap (λ said. c.loop-segment.made.items ++ said)
    (came_is c.args.after.now (covers c.args.known.now) c.args.files.now c.segment-item.result))
    c.loop-segment.invariant

pub returns : goal.returns
returns c =
    c.loop-segment.invariant
    ∙ ap (flat_map (came_at c.args.after.now (covers c.args.known.now) c.args.files.now))
    (take_all c.loop-segment.segment-index c.args.segments.now (omega (arith, c.loop-segment-test.false)))
