use Rattle.std.proofs.Common.{sym, ◌∙◌}
use Rattle.op_core.specs.Ids.{id_cmp}
use Rattle.op_core.specs.Ops.{Operation}
use Rattle.op_core.proofs.IdOrders.Rising.{id_total}
use Rattle.op_core.proofs.Sets.Held.{get-found, tied_at, apart_at}
use Rattle.usfm_ref.proofs.Sorted.{found_here, found_not, found_end}
use Rattle.op_core.proofs.lists.place.op_at.Goals.{then-at-ops+else-eq, else-at-ops}
use Rattle.op_core.proofs.lists.place.op_at.Goals as goal

pub returns-then-eq-clause-found : goal.returns-then-eq-clause-found
returns-then-eq-clause-found c =
    sym (get-found c.args.ops.now c.args.id
    ∙ found_here id_cmp id_total
    (λ (o : Operation). o.id) c.args.id c.args.ops.now c.args.at c.index-ops-at.result c.requires.rising c.requires.place
    c.if-at-ops.true c.index-ops-at.is (tied_at c.args.id c.index-ops-at.result _ _ c.id.ensures.id c.eq.ensures c.if-eq.true))

pub returns-clause-found : goal.returns-clause-found
returns-clause-found c = sym (get-found c.args.ops.now c.args.id ∙ elim c.if-at-ops.branch [
  | then-at-ops+else-eq w ↦ found_not id_cmp id_total
      (λ (o : Operation). o.id) c.args.id c.args.ops.now c.args.at w.index-ops-at.result c.requires.rising c.requires.place
      w.index-ops-at.is (apart_at c.args.id w.index-ops-at.result _ _ w.id.ensures.id w.eq.ensures w.if-eq.false)
  | else-at-ops w ↦ found_end id_cmp id_total
      (λ (o : Operation). o.id) c.args.id c.args.ops.now c.args.at c.requires.rising c.requires.place w.if-at-ops.false
])
