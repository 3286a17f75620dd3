use Rattle.std.proofs.Common.{Some, cond, not, ap, ◌∙◌}
use Rattle.std.specs.BTreeMap.{get as value_at, is_at}
use Rattle.op_core.specs.Ids.{id_cmp}
use Rattle.bundle_codec.proofs.Unnamed.{no_text, passes_thinned, holds_thinned}
use Rattle.bundle_codec.proofs.bundle.thinning.thinned_of.Goals as goal

pub loop-op-preserved-in_ok-insert : goal.loop-op-preserved-in_ok-insert
loop-op-preserved-in_ok-insert c =
    passes_thinned c.args.ops c.loop-op.op-iterator c.next.new.self c.in-Some.op c.loop-op.thinned c.in-Some.ensures.steps
    c.loop-op.invariant (no_text c.in-Some.op c.text.result c.text.ensures (c.is_none.ensures ∙ ap not c.if-is_none.true)) c.insert.new.self
    (λ q. c.in_ok-insert.ensures.updates.0 q
    ∙ (λ i. cond (is_at (id_cmp (c.id.ensures.id i)) q) (Some (c.book.ensures i, c.key.ensures i)) (value_at id_cmp c.loop-op.thinned q)))

pub returns-clause-holds : goal.returns-clause-holds
returns-clause-holds c =
    holds_thinned c.args.ops c.loop-op.op-iterator c.loop-op.thinned c.requires c.in-None.ensures.steps.0 c.loop-op.invariant
