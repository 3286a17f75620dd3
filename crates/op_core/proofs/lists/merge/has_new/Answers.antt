use Rattle.std.proofs.Common.{ap, sym, ◌∙◌, take_all, is_none}
use Rattle.std.specs.List.{list_any}
use Rattle.std.proofs.lemmas.List.Folds.{list_any_at}
use Rattle.op_core.specs.Ops.{Operation}
use Rattle.op_core.specs.Sets.{get}
use Rattle.op_core.proofs.Sets.Fresh.{looked_up, none_more}
use Rattle.op_core.proofs.lists.merge.has_new.Goals as goal

pub loop-op-preserved : goal.loop-op-preserved
loop-op-preserved c =
    let held = c.args.held.now in
    let o = c.op-item.result in
    let told = looked_up held o c.id.result c.find_near.result c.is_none.result c.id.ensures.id c.find_near.ensures.found
    c.is_none.ensures in
    none_more (λ p. is_none (get held p.id)) c.args.new.now c.loop-op.op-index o c.loop-op-test.true c.op-item.is
    (told ∙ c.if-is_none.false) c.loop-op.invariant

pub returns-then-is_none : goal.returns-then-is_none
returns-then-is_none c =
    let held = c.args.held.now in
    let o = c.op-item.result in
    let told = looked_up held o c.id.result c.find_near.result c.is_none.result c.id.ensures.id c.find_near.ensures.found
    c.is_none.ensures in
    sym (list_any_at (λ p. is_none (get held p.id)) c.args.new.now c.loop-op.op-index o c.loop-op-test.true
    (ap (λ (p : Operation). is_none (get held p.id)) (sym c.op-item.is) ∙ told ∙ c.if-is_none.true))

pub returns : goal.returns
returns c =
    sym (sym (ap (list_any (λ p. is_none (get c.args.held.now p.id))) (take_all c.loop-op.op-index c.args.new.now c.loop-op-test.false))
    ∙ c.loop-op.invariant)
