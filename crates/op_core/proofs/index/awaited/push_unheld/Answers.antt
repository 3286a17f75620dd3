use Rattle.std.proofs.Common.{ap, not, ◌∙◌}
use Rattle.op_core.proofs.Indexed.Awaited.{held_none, gathered, passed, is_unheld, on_err}
use Rattle.op_core.proofs.index.awaited.push_unheld.Goals.{then-is_none+in_ok-push, else-is_none}
use Rattle.op_core.proofs.index.awaited.push_unheld.Goals as goal

pub loop-id-preserved : goal.loop-id-preserved
loop-id-preserved c =
    let unheld = held_none c.args.held.now c.id-item.result c.find_op.result c.is_none.result c.find_op.ensures.found c.is_none.ensures in
    elim c.if-is_none.branch [
      | then-is_none+in_ok-push w ↦ λ q. rw w.ids-is
          (gathered c.args.held.now q _ c.loop-id.ids.items c.args.missing.now c.loop-id.id-index c.id-item.result c.loop-id-test.true
          c.id-item.is (c.loop-id.invariant q) w.push.new.self.items w.in_ok-push.ensures.items (unheld ∙ ap not w.if-is_none.true))
      | else-is_none w ↦ λ q. rw w.ids-is
          (passed c.args.held.now q _ c.loop-id.ids.items c.args.missing.now c.loop-id.id-index c.id-item.result c.loop-id-test.true
          c.id-item.is (c.loop-id.invariant q) (unheld ∙ ap not w.if-is_none.false))
    ]

pub returns-in_err-push-clause-one : goal.returns-in_err-push-clause-one
returns-in_err-push-clause-one c =
    let unheld = held_none c.args.held.now c.id-item.result c.find_op.result c.is_none.result c.find_op.ensures.found c.is_none.ensures
    ∙ ap not c.if-is_none.true in
    on_err c.from_residual.result (
      c.id-item.result,
      is_unheld c.args.held.now c.args.missing.now c.loop-id.id-index c.id-item.result c.loop-id-test.true
          c.id-item.is unheld,
    )
