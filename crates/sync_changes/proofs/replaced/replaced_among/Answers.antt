use Rattle.std.proofs.Common.{[], ◌++◌, arith, ap, ◌∙◌}
use Rattle.std.specs.List.{flat_map, list_any}
use Rattle.std.proofs.lemmas.List.{take_all}
use Rattle.sync_changes.proofs.Listed.{appended}
use Rattle.segment_history.proofs.Listing.{ops_are}
use Rattle.sync_changes.specs.Changes.{replaced_at, if_named}
use Rattle.sync_changes.specs.Loops.Parts.{lacks}
use Rattle.sync_changes.proofs.Overwriting.{overwritten_is, one_at}
use Rattle.sync_changes.proofs.replaced.replaced_among.Goals as goal

pub loop-segment-preserved : goal.loop-segment-preserved
loop-segment-preserved c =
    appended (replaced_at c.args.after.now c.args.files.now c.args.base.now c.args.older.now) c.args.segments.now
    c.loop-segment.segment-index c.segment-item.result [] c.loop-segment.made.items c.push_if_named.new.made.items
    c.loop-segment-test.true c.segment-item.is
    (c.in_ok-push_if_named.ensures
    ∙ ap (λ names. c.loop-segment.made.items ++ if_named c.segment-item.result names)
    (c.in_ok-names.ensures
    ∙ overwritten_is c.args.after.now c.args.files.now c.args.base.now c.args.older.now c.deref.result.now
    c.segment-item.result _ _
    (ops_are c.args.after.now c.args.segments.now c.in_ok-edited.edited c.in_ok-edited.ensures
    c.loop-segment.segment-index c.segment-item.result c.loop-segment-test.true c.segment-item.is)
    (ops_are c.args.base.now c.args.segments.now c.in_ok-shown.shown c.in_ok-shown.ensures
    c.loop-segment.segment-index c.segment-item.result c.loop-segment-test.true c.segment-item.is)
    (λ id. ap (λ olds. list_any (lacks c.segment-item.result id) olds) c.deref.ensures.value ∙ c.in_ok-olds.ensures c.segment-item.result id
    (one_at c.args.segments.now c.loop-segment.segment-index c.segment-item.result c.loop-segment-test.true
    c.segment-item.is))))
    c.loop-segment.invariant

pub returns : goal.returns
returns c =
    c.loop-segment.invariant
    ∙ ap (flat_map (replaced_at c.args.after.now c.args.files.now c.args.base.now c.args.older.now))
    (take_all c.loop-segment.segment-index c.args.segments.now (omega (arith, c.loop-segment-test.false)))
