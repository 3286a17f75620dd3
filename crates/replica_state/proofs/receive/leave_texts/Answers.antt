use Rattle.std.proofs.Common.{List, sym, ap, subst, ◌∙◌}
use Rattle.std.proofs.lemmas.Bool.{not-true}
use Rattle.op_core.specs.Ids.{Id, same_id}
use Rattle.op_core.specs.Ops.{Operation, is_full}
use Rattle.op_core.specs.Thinned.{thin_where}
use Rattle.op_core.proofs.ThinnedSets.Left.{none_thinned}
use Rattle.replica_state.proofs.Leaving.{IsLeaving, left, all_left, none_left}
use Rattle.replica_state.proofs.receive.leave_texts.Goals as goal

pub loop-view-preserved-then-is_none : goal.loop-view-preserved-then-is_none
loop-view-preserved-then-is_none c =
    let o = c.in-Some.view in
    let thinned =
    not-true (is_full o)
    (none_thinned (λ t. t.now) c.text.result o.text c.is_none.result c.text.ensures c.is_none.ensures ∙ c.if-is_none.true)
    in
    subst (λ (now : List Operation). IsLeaving c.args.set.now c.args.bundle.now now c.next.new.self)
    (sym (c.thin_id.ensures.thin ∙ ap (λ (id : Id). thin_where (same_id id) c.loop-view.set) c.id.ensures.id))
    (left c.args.set.now c.args.bundle.now c.loop-view.set c.loop-view.view-iterator c.next.new.self o c.loop-view.invariant
    c.in-Some.ensures.steps thinned)

pub returns-then-is_full : goal.returns-then-is_full
returns-then-is_full c = none_left c.args.set.now c.args.bundle.now (sym c.is_full.ensures ∙ c.if-is_full.true)

pub returns : goal.returns
returns c =
    all_left c.args.set.now c.args.bundle.now c.loop-view.set c.loop-view.view-iterator c.loop-view.invariant c.in-None.ensures.steps.0
