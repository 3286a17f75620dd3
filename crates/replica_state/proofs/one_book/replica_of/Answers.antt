use Rattle.std.proofs.Common.{◌≡◌, true, List, sym, ap, subst, ◌∙◌}
use Rattle.op_core.specs.Ops.{Operation}
use Rattle.op_core.specs.Sets.{join}
use Rattle.op_core.specs.Loops.Index.{AreApart}
use Rattle.op_core.specs.Thinned.{is_legal}
use Rattle.op_core.proofs.Sets.Fronts.{join_none}
use Rattle.replica_state.specs.States.{State}
use Rattle.replica_state.specs.Steps.{with_ops}
use Rattle.replica_state.proofs.Gathered.{apart_from_none, legal_from_none}
use Rattle.replica_state.proofs.one_book.replica_of.Goals as goal

pub join_new-requires-clause-apart : goal.join_new-requires-clause-apart
join_new-requires-clause-apart c =
    subst (λ (s : State). AreApart s.held c.args.ops.items) (sym c.new-replica.ensures) (apart_from_none c.args.ops.items)

pub join_new-requires-clause-legal : goal.join_new-requires-clause-legal
join_new-requires-clause-legal c =
    subst (λ (s : State). is_legal (join s.held c.args.ops.items) ≡ true) (sym c.new-replica.ensures)
    (legal_from_none c.args.ops.items c.requires.set c.requires.legal)

pub returns-clause-held : goal.returns-clause-held
returns-clause-held c =
    c.in_ok-join_new.ensures.ok ∙ ap (λ (s : State). with_ops s c.args.ops.items) c.new-replica.ensures
    ∙ ap (λ (held : List Operation). record { name = c.args.name; held = held }) (join_none c.args.ops.items c.requires.set.rising)
