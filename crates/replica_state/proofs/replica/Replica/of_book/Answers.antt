use Rattle.std.proofs.Common.{sym, ap, subst, ◌∙◌}
use Rattle.op_core.specs.Sets.{IsOpSet}
use Rattle.op_core.specs.Thinned.{is_legal}
use Rattle.op_core.proofs.Exports.OneBook.{ops_of_book_set, ops_of_book_legal}
use Rattle.replica_state.proofs.replica.Replica.of_book.Goals as goal

pub replica_of-requires-clause-set : goal.replica_of-requires-clause-set
replica_of-requires-clause-set c =
    let copied = c.in_ok-copy_of_book.ensures in
    subst IsOpSet (sym copied.ops) (ops_of_book_set c.args.bundle.now c.args.book copied.set)

pub replica_of-requires-clause-legal : goal.replica_of-requires-clause-legal
replica_of-requires-clause-legal c =
    let copied = c.in_ok-copy_of_book.ensures in
    ap is_legal copied.ops ∙ ops_of_book_legal c.args.bundle.now c.args.book copied.set copied.legal
