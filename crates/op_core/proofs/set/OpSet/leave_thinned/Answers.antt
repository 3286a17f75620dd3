use Rattle.std.proofs.Common.{ap, sym, subst, ◌∙◌, ◌≡◌, take, take_all, List, true}
use Rattle.op_core.specs.Ids.{Id, same_id}
use Rattle.op_core.specs.Ops.{Operation, is_thinned}
use Rattle.op_core.specs.Thinned.{ArePast, thin_where, is_thinned_in}
use Rattle.op_core.proofs.ThinnedSets.Left.{none_thinned, past_on, thinned_item, leaves_more, leaves_same, where_never}
use Rattle.op_core.proofs.set.OpSet.leave_thinned.Goals.{then-is_none, else-is_none}
use Rattle.op_core.proofs.set.OpSet.leave_thinned.Goals as goal

pub thin_id-requires : goal.thin_id-requires
thin_id-requires c =
    let all = c.args.others.now in
    let o = c.op-item.result in
    let thinned : is_thinned o ≡ true = none_thinned (λ t. t.now) c.text.result o.text c.is_none.result c.text.ensures c.is_none.ensures
    ∙ c.if-is_none.true in
    let item = thinned_item all c.loop-op.op-index o c.loop-op-test.true c.op-item.is thinned in
    let past = past_on (is_thinned_in (take c.loop-op.op-index all))
    (is_thinned_in all) c.args.self.now c.loop-op.self o.id c.loop-op.invariant c.requires.past item in
    record { past = subst (λ (id : Id). ArePast (same_id id) c.loop-op.self) (sym c.id.ensures.id) past }

pub loop-op-init : goal.loop-op-init
loop-op-init c = sym (where_never c.args.self.now)

pub loop-op-preserved : goal.loop-op-preserved
loop-op-preserved c =
    let all = c.args.others.now in
    let o = c.op-item.result in
    let thinned = none_thinned (λ t. t.now) c.text.result o.text c.is_none.result c.text.ensures c.is_none.ensures in
    elim c.if-is_none.branch [
      | then-is_none w ↦
          w.self-is ∙ w.thin_id.ensures.thin ∙ ap (λ (id : Id). thin_where (same_id id) c.loop-op.self) w.id.ensures.id
          ∙ leaves_more all c.loop-op.op-index o c.loop-op-test.true c.op-item.is
          (thinned ∙ w.if-is_none.true) c.args.self.now c.loop-op.self c.loop-op.invariant
      | else-is_none w ↦ w.self-is
          ∙ leaves_same all c.loop-op.op-index o c.loop-op-test.true c.op-item.is
          (thinned ∙ w.if-is_none.false) c.args.self.now c.loop-op.self c.loop-op.invariant
    ]

pub returns : goal.returns
returns c =
    c.loop-op.invariant
    ∙ ap (λ (xs : List Operation). thin_where (is_thinned_in xs) c.args.self.now)
    (take_all c.loop-op.op-index c.args.others.now c.loop-op-test.false)
