use Rattle.std.proofs.Common.{ap, ◌∙◌, take_all, List}
use Rattle.op_core.specs.Ops.{Operation}
use Rattle.op_core.specs.Thinned.{is_thinned_in}
use Rattle.op_core.proofs.ThinnedSets.Left.{none_thinned, gathers, passes}
use Rattle.op_core.proofs.set.thinning.ids.Goals.{then-is_none+in_ok-push, else-is_none}
use Rattle.op_core.proofs.set.thinning.ids.Goals as goal

pub loop-op-preserved : goal.loop-op-preserved
loop-op-preserved c =
    let thinned = none_thinned (λ t. t.now) c.text.result c.op-item.result.text c.is_none.result c.text.ensures c.is_none.ensures in
    elim c.if-is_none.branch [
      | then-is_none+in_ok-push w ↦ λ q. rw w.ids-is
          (gathers c.args.ops.now c.loop-op.op-index c.op-item.result c.loop-op-test.true c.op-item.is q c.loop-op.ids.items
          w.push.new.self.items w.id.result w.id.ensures.id (thinned ∙ w.if-is_none.true) w.in_ok-push.ensures.items
          (c.loop-op.invariant q))
      | else-is_none w ↦ λ q. rw w.ids-is
          (passes c.args.ops.now c.loop-op.op-index c.op-item.result c.loop-op-test.true c.op-item.is q c.loop-op.ids.items
          (thinned ∙ w.if-is_none.false) (c.loop-op.invariant q))
    ]

pub returns : goal.returns
returns c q =
    c.loop-op.invariant q
    ∙ ap (λ (xs : List Operation). is_thinned_in xs q) (take_all c.loop-op.op-index c.args.ops.now c.loop-op-test.false)
