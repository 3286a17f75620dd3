use Rattle.sync_changes.proofs.Olds.{books_more, books_all}
use Rattle.sync_changes.proofs.older.books_of.Goals as goal

pub loop-op-preserved : goal.loop-op-preserved
loop-op-preserved c =
    books_more c.loop-op.op-iterator c.next.new.self c.args.bundle.now c.in-Some.op c.book.result c.loop-op.books c.insert.new.self
    c.in-Some.ensures.steps c.book.ensures c.in_ok-insert.ensures.updates.0 c.loop-op.invariant

pub returns : goal.returns
returns c =
    books_all c.loop-op.op-iterator c.args.bundle.now c.loop-op.books c.in-None.ensures.steps.0 c.loop-op.invariant
