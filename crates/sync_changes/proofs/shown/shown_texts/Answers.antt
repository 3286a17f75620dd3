use Rattle.std.proofs.Common.{List, map, filter, not, ◌&&◌, arith, ap, ◌∙◌}
use Rattle.std.proofs.lemmas.List.{take_all}
use Rattle.std.specs.BTreeSet.{contains}
use Rattle.op_core.specs.Ids.{id_cmp}
use Rattle.op_core.specs.Ops.{Operation}
use Rattle.sync_changes.specs.Loops.Parts.{in_part}
use Rattle.sync_changes.proofs.Showing.{same_filter}
use Rattle.sync_changes.proofs.shown.shown_texts.Goals as goal

pub returns : goal.returns
returns c =
    c.loop-op.invariant
    ∙ ap (λ (os : List Operation). map (λ o. o.text)
    (filter (λ o. in_part c.args.part o.id && not (contains id_cmp c.in_ok-named.named o.id)) os))
    (take_all c.loop-op.op-index c.args.ops.now (omega (arith, c.loop-op-test.false)))
    ∙ ap (map (λ (o : Operation). o.text))
    (same_filter _ _ (λ o. ap (λ b. in_part c.args.part o.id && not b) (c.in_ok-named.ensures o.id)) c.args.ops.now)
