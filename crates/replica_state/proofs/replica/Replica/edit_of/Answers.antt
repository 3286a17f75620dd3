use Rattle.std.proofs.Common.{ap, subst, ◌∙◌}
use Rattle.usfm_ref.specs.Segments.{segment}
use Rattle.op_core.specs.Ids.{names_fall}
use Rattle.replica_state.specs.States.{IsState}
use Rattle.replica_state.proofs.Changes.{given_fall}
use Rattle.replica_state.proofs.replica.Replica.edit_of.Goals as goal

pub new-requires-clause-falls : goal.new-requires-clause-falls
new-requires-clause-falls c =
    let state : IsState c.args.self.now = subst IsState c.self.view_is c.self.invariant in
    ap (names_fall c.args.id) c.in_ok-replaced.ensures
    ∙ given_fall c.args.self.now.held (segment c.args.book c.args.change.now.key) c.deref.result.now c.args.id state.set.rising
    c.requires.beyond
