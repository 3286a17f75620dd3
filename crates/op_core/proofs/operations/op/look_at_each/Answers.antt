use Rattle.std.proofs.Common.{◌≡◌, true, sym, ap, subst, ◌∙◌}
use Rattle.std.proofs.lemmas.Bool.{and_from}
use Rattle.std.proofs.lemmas.List.Folds.{list_all_more}
use Rattle.op_core.specs.Ids.{Id, is_id}
use Rattle.op_core.proofs.operations.op.look_at_each.Goals as goal

pub loop-id-preserved : goal.loop-id-preserved
loop-id-preserved c =
    let here : is_id c.id-item.result ≡ true = subst (λ (i : Id). is_id i ≡ true) c.id.view_is c.id.invariant in
    list_all_more is_id c.args.replaced.now c.loop-id.id-index c.id-item.result c.loop-id-test.true
    ∙ and_from _ _ c.loop-id.invariant (ap is_id (sym c.id-item.is) ∙ here)
