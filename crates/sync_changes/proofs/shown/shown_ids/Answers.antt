use Rattle.std.proofs.Common.{List, map, filter, not, arith, ap, ◌∙◌}
use Rattle.std.proofs.lemmas.List.{take_all}
use Rattle.std.specs.BTreeSet.{contains}
use Rattle.op_core.specs.Ids.{id_cmp}
use Rattle.op_core.specs.Ops.{Operation}
use Rattle.sync_changes.proofs.Showing.{same_filter}
use Rattle.sync_changes.proofs.shown.shown_ids.Goals as goal

pub returns : goal.returns
returns c =
    c.loop-op.invariant
    ∙ ap (λ (os : List Operation). map (λ o. o.id) (filter (λ o. not (contains id_cmp c.in_ok-named.named o.id)) os))
    (take_all c.loop-op.op-index c.args.ops.now (omega (arith, c.loop-op-test.false)))
    ∙ ap (map (λ (o : Operation). o.id)) (same_filter _ _ (λ o. ap not (c.in_ok-named.ensures o.id)) c.args.ops.now)
