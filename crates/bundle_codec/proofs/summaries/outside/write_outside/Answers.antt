use Rattle.std.proofs.Common.{◌∙◌, arith}
use Rattle.op_core.specs.Thinned.{is_sent}
use Rattle.op_core.proofs.Sets.Legal.{delta_legal}
use Rattle.bundle_codec.specs.Summaries.{covers, outside}
use Rattle.bundle_codec.proofs.Refronted.{has_front}
use Rattle.bundle_codec.proofs.Wholes.{whole_reads}
use Rattle.bundle_codec.proofs.LackedSegments.{asked}
use Rattle.bundle_codec.proofs.Outside.{outside_set, counted_some, goes_past, written_all, is_bundle}
use Rattle.bundle_codec.proofs.summaries.outside.write_outside.Goals as goal

pub overflow_sub-count : goal.overflow_sub-count
overflow_sub-count c =
    counted_some (is_sent c.args.ops (covers c.args.summary.now)) c.args.ops c.loop-op.op-iterator c.next.new.self c.in-Some.op
    c.loop-op.bytes.items c.loop-op.full c.loop-op.count c.in-Some.ensures.steps c.loop-op.invariant.1
    (asked c.args.ops c.args.summary.now c.loop-op.coverage c.args.whole.now c.in-Some.op c.is_sent.result
    c.loop-op.invariant.0 c.requires.whole c.is_sent.ensures.answer
    ∙ c.if-is_sent.false)

pub loop-op-preserved : goal.loop-op-preserved
loop-op-preserved c = (
  c.is_sent.ensures.same ∙ c.loop-op.invariant.0,
  goes_past (is_sent c.args.ops (covers c.args.summary.now)) c.args.ops c.loop-op.op-iterator c.next.new.self c.in-Some.op
      c.loop-op.bytes.items c.loop-op.full c.loop-op.count c.in-Some.ensures.steps c.loop-op.invariant.1
      (asked c.args.ops c.args.summary.now c.loop-op.coverage c.args.whole.now c.in-Some.op c.is_sent.result
      c.loop-op.invariant.0 c.requires.whole c.is_sent.ensures.answer
      ∙ c.if-is_sent.false),
)

pub set_front-requires : goal.set_front-requires
set_front-requires c =
    let all = written_all (is_sent c.args.ops (covers c.args.summary.now)) c.args.ops c.loop-op.op-iterator c.loop-op.bytes.items
    c.loop-op.full c.loop-op.count c.in-None.ensures.steps.0 c.loop-op.invariant.1 in
    omega (arith, has_front (outside c.args.summary.now c.args.ops) c.loop-op.bytes.items all, c.loop-op.bytes.ok.0)

pub returns-clause-spelled : goal.returns-clause-spelled
returns-clause-spelled c =
    is_bundle (is_sent c.args.ops (covers c.args.summary.now)) c.args.ops c.loop-op.op-iterator c.loop-op.bytes.items c.loop-op.full
    c.loop-op.count c.in-None.ensures.steps.0 c.loop-op.invariant.1 c.set_front.new.bytes.items c.set_front.ensures

pub returns-clause-again : goal.returns-clause-again
returns-clause-again c = whole_reads c.set_front.new.bytes.items (record {
  ops = outside c.args.summary.now c.args.ops;
  set = outside_set c.args.summary.now c.args.ops c.requires.set;
  legal = delta_legal c.args.ops (covers c.args.summary.now) c.requires.set.rising c.requires.legal;
  spelled =
      is_bundle (is_sent c.args.ops
      (covers c.args.summary.now)) c.args.ops c.loop-op.op-iterator c.loop-op.bytes.items c.loop-op.full
      c.loop-op.count c.in-None.ensures.steps.0 c.loop-op.invariant.1 c.set_front.new.bytes.items c.set_front.ensures;
  short = omega (arith, c.set_front.new.bytes.ok.0, c.set_front.new.bytes.small);
})
