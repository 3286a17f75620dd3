use Rattle.op_core.proofs.IdOrders.Inside.{in_none, in_some}
use Rattle.op_core.proofs.lists.place.is_in.Goals as goal

pub returns-in-None-clause-found : goal.returns-in-None-clause-found
returns-in-None-clause-found c = in_none c.args.ops.now c.args.segment.now c.args.id c.requires.rising c.in-None.ensures.found

pub returns-in-Some-clause-found : goal.returns-in-Some-clause-found
returns-in-Some-clause-found c = in_some c.args.ops.now
    c.args.segment.now c.args.id c.in-Some.op.now _ c.requires.rising c.in-Some.ensures.found c.in_segment.ensures
