use Rattle.std.proofs.Common.{true, false, sym, ◌∙◌, arith}
use Rattle.bundle_codec.proofs.Merges.{lent_some}
use Rattle.bundle_codec.proofs.Thins.{begins, past_at, keeps, leaves_out, stays_out, counts_one, all_written, full_is, count_is}
use Rattle.bundle_codec.proofs.thinning.push_thinned.Goals as goal

pub loop-op-init : goal.loop-op-init
loop-op-init c = begins c.args.bundle.now c.into_iter-op-iterator.result c.args.bytes.now.items
    (c.into_iter-op-iterator.ensures.into_iter_gives ∙ c.ops-op-items.ensures.items)

pub overflow_add-left_out : goal.overflow_add-left_out
overflow_add-left_out c =
    let past = past_at c.args.bundle.now c.args.named.now c.in-Some.op c.is_named.result true c.requires c.is_named.ensures
    c.if-is_named.true in
    let had = sym (c.is_some.ensures ∙ lent_some c.text.result c.in-Some.op.text c.text.ensures) ∙ c.if-is_some.true in
    omega (
      arith,
      c.len.ensures,
      counts_one c.args.bundle.now c.loop-op.op-iterator c.next.new.self c.in-Some.op
          c.args.bytes.now.items c.loop-op.bytes.items c.loop-op.full c.loop-op.left_out c.in-Some.ensures.steps c.loop-op.invariant past
          c.push_bare.new.bytes.items c.in_ok-push_bare.ensures had,
    )

pub loop-op-preserved-then-is_some : goal.loop-op-preserved-then-is_some
loop-op-preserved-then-is_some c =
    let past = past_at c.args.bundle.now c.args.named.now c.in-Some.op c.is_named.result true c.requires c.is_named.ensures
    c.if-is_named.true in
    let had = sym (c.is_some.ensures ∙ lent_some c.text.result c.in-Some.op.text c.text.ensures) ∙ c.if-is_some.true in
    leaves_out c.args.bundle.now c.loop-op.op-iterator c.next.new.self c.in-Some.op c.args.bytes.now.items c.loop-op.bytes.items
    c.loop-op.full c.loop-op.left_out c.in-Some.ensures.steps c.loop-op.invariant past c.push_bare.new.bytes.items
    c.in_ok-push_bare.ensures had

pub loop-op-preserved-else-is_some : goal.loop-op-preserved-else-is_some
loop-op-preserved-else-is_some c =
    let past = past_at c.args.bundle.now c.args.named.now c.in-Some.op c.is_named.result true c.requires c.is_named.ensures
    c.if-is_named.true in
    let had = sym (c.is_some.ensures ∙ lent_some c.text.result c.in-Some.op.text c.text.ensures) ∙ c.if-is_some.false in
    stays_out c.args.bundle.now c.loop-op.op-iterator c.next.new.self c.in-Some.op c.args.bytes.now.items c.loop-op.bytes.items
    c.loop-op.full c.loop-op.left_out c.in-Some.ensures.steps c.loop-op.invariant past c.push_bare.new.bytes.items
    c.in_ok-push_bare.ensures had

pub loop-op-preserved : goal.loop-op-preserved
loop-op-preserved c =
    let past = past_at c.args.bundle.now c.args.named.now c.in-Some.op c.is_named.result false c.requires c.is_named.ensures
    c.if-is_named.false in
    keeps c.args.bundle.now c.loop-op.op-iterator c.next.new.self c.in-Some.op c.args.bytes.now.items c.loop-op.bytes.items
    c.loop-op.full c.loop-op.left_out c.in-Some.ensures.steps c.loop-op.invariant past c.push_spelled.new.bytes.items
    c.stays_full-full.result c.in_ok-push_spelled.ensures c.stays_full-full.ensures

pub returns-clause-pushed : goal.returns-clause-pushed
returns-clause-pushed c =
    all_written c.args.bundle.now c.loop-op.op-iterator c.args.bytes.now.items c.loop-op.bytes.items c.loop-op.full c.loop-op.left_out
    c.in-None.ensures.steps.0 c.loop-op.invariant

pub returns-clause-full : goal.returns-clause-full
returns-clause-full c =
    full_is c.args.bundle.now c.loop-op.op-iterator c.args.bytes.now.items c.loop-op.bytes.items c.loop-op.full c.loop-op.left_out
    c.in-None.ensures.steps.0 c.loop-op.invariant

pub returns-clause-left_out : goal.returns-clause-left_out
returns-clause-left_out c =
    count_is c.args.bundle.now c.loop-op.op-iterator c.args.bytes.now.items c.loop-op.bytes.items c.loop-op.full c.loop-op.left_out
    c.in-None.ensures.steps.0 c.loop-op.invariant
