use Rattle.std.proofs.Common.{rules, of_calls}
use Rattle.op_core.specs.Ids.{id_cmp, id_below}
use Rattle.op_core.specs.Ops.{Operation}
use Rattle.op_core.proofs.IdOrders.Rising.{id_total}
use Rattle.usfm_ref.proofs.Sorted.{parted}
use Rattle.op_core.proofs.lists.place.place_op.Goals as goal

pub returns-clause-place : goal.returns-clause-place
returns-clause-place c = c.place_by.ensures.place (λ (o : Operation). id_below o.id c.args.id) (λ a r k. search (rules, of_calls))
    (parted id_cmp id_total (λ (o : Operation). o.id) c.args.id c.args.ops.now c.requires.rising)
