use Rattle.std.proofs.Common.{sym, ◌∙◌}
use Rattle.bundle_codec.specs.Summaries.{covers}
use Rattle.bundle_codec.proofs.LackedSegments.{none_gathered, passes_by, gathers, all_gathered}
use Rattle.bundle_codec.proofs.summaries.outside.lacked_segments.Goals as goal

pub loop-op-init : goal.loop-op-init
loop-op-init c = none_gathered (covers c.args.summary.now) c.args.ops c.into_iter-op-iterator.result c.new-segments.result
    c.new-segments.ensures.empty c.into_iter-op-iterator.ensures.into_iter_gives

pub loop-op-preserved-in_ok-insert : goal.loop-op-preserved-in_ok-insert
loop-op-preserved-in_ok-insert c =
    gathers (covers c.args.summary.now) c.args.ops c.loop-op.op-iterator c.next.new.self c.in-Some.op c.in-Some.ensures.steps
    c.loop-op.segments c.loop-op.invariant (sym c.is_lacked_thinned.ensures ∙ c.if-is_lacked_thinned.true) c.insert.new.self
    c.book.result c.key.result c.book.ensures c.key.ensures c.in_ok-insert.ensures.updates.0

pub loop-op-preserved : goal.loop-op-preserved
loop-op-preserved c =
    passes_by (covers c.args.summary.now) c.args.ops c.loop-op.op-iterator c.next.new.self c.in-Some.op c.in-Some.ensures.steps
    c.loop-op.segments c.loop-op.invariant (sym c.is_lacked_thinned.ensures ∙ c.if-is_lacked_thinned.false)

pub returns : goal.returns
returns c = all_gathered (covers c.args.summary.now) c.args.ops c.loop-op.op-iterator c.loop-op.segments c.in-None.ensures.steps.0
    c.loop-op.invariant
