use Rattle.std.proofs.Common.{sym, ap, subst, ◌∙◌}
use Rattle.op_core.specs.Sets.{IsOpSet}
use Rattle.op_core.specs.Thinned.{is_legal}
use Rattle.op_core.proofs.Exports.ForEdit.{for_edit_set, for_edit_legal}
use Rattle.replica_state.proofs.replica.Replica.for_edit.Goals as goal

pub replica_of-requires-clause-set : goal.replica_of-requires-clause-set
replica_of-requires-clause-set c =
    let copied = c.in_ok-copy_for_edit.ensures in
    subst IsOpSet (sym copied.ops) (for_edit_set c.args.bundle.now c.args.book copied.set)

pub replica_of-requires-clause-legal : goal.replica_of-requires-clause-legal
replica_of-requires-clause-legal c =
    let copied = c.in_ok-copy_for_edit.ensures in
    ap is_legal copied.ops ∙ for_edit_legal c.args.bundle.now c.args.book copied.set copied.legal
