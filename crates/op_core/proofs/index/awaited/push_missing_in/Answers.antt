use Rattle.std.proofs.Common.{not}
use Rattle.op_core.specs.Lists.{is_held}
use Rattle.op_core.proofs.Indexed.Awaited.{missed_at, on_err}
use Rattle.op_core.proofs.index.awaited.push_missing_in.Goals as goal

pub returns-in_err-push_unheld-clause-one : goal.returns-in_err-push_unheld-clause-one
returns-in_err-push_unheld-clause-one c =
    let one = c.in_err-push_unheld.ensures.one in
    on_err c.from_residual.result (
      one.0,
      missed_at c.args.registers.now c.loop-register.register-index c.register-item.result one.0
          (not (is_held c.args.held.now one.0)) c.loop-register-test.true c.register-item.is (rw (← c.deref.ensures.value) one.1),
    )
