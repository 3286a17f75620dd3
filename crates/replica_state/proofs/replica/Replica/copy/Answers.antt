use Rattle.std.proofs.Common.{◌≡◌, List, ◌++◌, sym, ap, ◌∙◌}
use Rattle.std.proofs.lemmas.List.{append-nil}
use Rattle.op_core.specs.Ops.{Operation}
use Rattle.op_core.specs.Sets.{rises, join}
use Rattle.op_core.specs.Thinned.{is_legal}
use Rattle.op_core.proofs.Sets.Fronts.{join_none}
use Rattle.replica_state.specs.States.{State}
use Rattle.replica_state.proofs.replica.Replica.copy.Goals as goal

pub join_rising-requires-clause-legal : goal.join_rising-requires-clause-legal
join_rising-requires-clause-legal c =
    let all : c.loop-op.ops.items ≡ c.self.inside.set =
    sym (append-nil c.loop-op.ops.items)
    ∙ ap (λ (ops : List Operation). c.loop-op.ops.items ++ ops) (sym c.in-None.ensures.steps.0) ∙ c.loop-op.invariant
    ∙ ap (λ (s : State). s.held) (sym c.self.view_is) in
    let made : join c.new-set.result c.loop-op.ops.items ≡ c.self.inside.set =
    ap (λ (held : List Operation). join held c.loop-op.ops.items) c.new-set.ensures
    ∙ join_none c.loop-op.ops.items (ap rises all ∙ c.iter-op-items.ensures.set.rising) ∙ all in
    ap is_legal made ∙ c.iter-op-items.ensures.legal

pub returns : goal.returns
returns c =
    let all : c.loop-op.ops.items ≡ c.self.inside.set =
    sym (append-nil c.loop-op.ops.items)
    ∙ ap (λ (ops : List Operation). c.loop-op.ops.items ++ ops) (sym c.in-None.ensures.steps.0) ∙ c.loop-op.invariant
    ∙ ap (λ (s : State). s.held) (sym c.self.view_is) in
    let set =
    c.in_ok-join_rising.ensures.ok
    ∙ ap (λ (held : List Operation). join held c.loop-op.ops.items) c.new-set.ensures
    ∙ join_none c.loop-op.ops.items (ap rises all ∙ c.iter-op-items.ensures.set.rising) ∙ all
    ∙ ap (λ (s : State). s.held) c.self.view_is in
    c.holding.ensures ∙ ap (λ (held : List Operation). record { name = c.args.self.now.name; held = held }) set
