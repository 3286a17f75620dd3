use Rattle.std.proofs.Common.{not}
use Rattle.op_core.specs.Lists.{is_held}
use Rattle.op_core.proofs.Indexed.Awaited.{missed_in_at, on_err}
use Rattle.op_core.proofs.index.awaited.push_awaited.Goals as goal

pub returns-in_err-push_missing_in-clause-one : goal.returns-in_err-push_missing_in-clause-one
returns-in_err-push_missing_in-clause-one c =
    let one = c.in_err-push_missing_in.ensures.one in
    on_err c.from_residual.result (
      one.0,
      missed_in_at c.args.chapters.now c.loop-chapter.chapter-index c.chapter-item.result one.0
          (not (is_held c.args.held.now one.0)) c.loop-chapter-test.true c.chapter-item.is (rw (← c.deref.ensures.value) one.1),
    )
