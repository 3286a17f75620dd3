use Rattle.std.proofs.Common.{◌≡◌, List, ◌++◌, sym, ap, ◌∙◌}
use Rattle.std.proofs.lemmas.List.{append-nil}
use Rattle.op_core.specs.Ops.{Operation}
use Rattle.op_core.specs.Sets.{rises, join}
use Rattle.op_core.specs.Thinned.{is_legal}
use Rattle.op_core.proofs.Sets.Fronts.{join_none}
use Rattle.bundle_codec.proofs.bundle.Bundle.to_set.Goals as goal

pub join_rising-requires-clause-legal : goal.join_rising-requires-clause-legal
join_rising-requires-clause-legal c =
    let all : c.loop-view.ops.items ≡ c.args.self.now =
    sym (append-nil c.loop-view.ops.items)
    ∙ ap (λ (ops : List Operation). c.loop-view.ops.items ++ ops) (sym c.in-None.ensures.steps.0) ∙ c.loop-view.invariant in
    let made : join c.new-set.result c.loop-view.ops.items ≡ c.args.self.now =
    ap (λ (held : List Operation). join held c.loop-view.ops.items) c.new-set.ensures
    ∙ join_none c.loop-view.ops.items (ap rises all ∙ c.ops-view-items.ensures.set.rising) ∙ all in
    ap is_legal made ∙ c.ops-view-items.ensures.legal

pub returns : goal.returns
returns c =
    let all : c.loop-view.ops.items ≡ c.args.self.now =
    sym (append-nil c.loop-view.ops.items)
    ∙ ap (λ (ops : List Operation). c.loop-view.ops.items ++ ops) (sym c.in-None.ensures.steps.0) ∙ c.loop-view.invariant in
    c.in_ok-join_rising.ensures.ok
    ∙ ap (λ (held : List Operation). join held c.loop-view.ops.items) c.new-set.ensures
    ∙ join_none c.loop-view.ops.items (ap rises all ∙ c.ops-view-items.ensures.set.rising)
    ∙ all
