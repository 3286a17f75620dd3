use Rattle.std.proofs.Common.{filter, arith, ap, ◌∙◌}
use Rattle.std.proofs.lemmas.List.{take_all}
use Rattle.segment_history.specs.Naming.{is_named}
use Rattle.segment_history.proofs.NamedOnes.{filtered_more}
use Rattle.segment_history.proofs.since.those_named.Goals as goal

pub loop-segment-preserved : goal.loop-segment-preserved
loop-segment-preserved c =
    filtered_more (is_named c.args.names.now) c.args.segments.now c.loop-segment.segment-index c.segment-item.result
    c.loop-segment.named.items c.push_if_named.new.segments.items c.loop-segment-test.true c.segment-item.is
    c.in_ok-push_if_named.ensures c.loop-segment.invariant

pub returns : goal.returns
returns c =
    c.loop-segment.invariant
    ∙ ap (filter (is_named c.args.names.now))
    (take_all c.loop-segment.segment-index c.args.segments.now (omega (arith, c.loop-segment-test.false)))
