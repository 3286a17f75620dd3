use Rattle.std.proofs.Common.{sym, ◌∙◌}
use Rattle.usfm_ref.specs.Segments.{segment}
use Rattle.replica_state.proofs.Edits.{may_begin}
use Rattle.replica_state.proofs.replica.Replica.edit_over.Goals as goal

pub make-requires-clause-fits : goal.make-requires-clause-fits
make-requires-clause-fits c =
    (may_begin c.args.self.now.held (segment c.args.book c.args.key) c.args.text.now (sym c.edit_fault.ensures ∙ c.in_default.is), tt)
