use Rattle.std.proofs.Common.{◌≡◌, filter, take_all, arith, ap, ◌∙◌}
use Rattle.op_core.proofs.IdOrders.IdSets.{filter_rises, filter_members}
use Rattle.op_core.proofs.ids.common_ids.Goals as goal
use Rattle.op_core.specs.NextIds.{is_among}

pub returns-clause-rising : goal.returns-clause-rising
returns-clause-rising c =
    let whole : c.loop-id.common.items ≡ filter (λ i. is_among c.args.others.now i) c.args.ids.now =
    c.loop-id.invariant ∙ ap (filter (λ i. is_among c.args.others.now i)) (take_all c.loop-id.id-index c.args.ids.now (omega arith)) in
    filter_rises (λ i. is_among c.args.others.now i) c.args.ids.now c.loop-id.common.items whole c.requires.rising

pub returns-clause-members : goal.returns-clause-members
returns-clause-members c =
    let whole : c.loop-id.common.items ≡ filter (λ i. is_among c.args.others.now i) c.args.ids.now =
    c.loop-id.invariant ∙ ap (filter (λ i. is_among c.args.others.now i)) (take_all c.loop-id.id-index c.args.ids.now (omega arith)) in
    filter_members (λ i. is_among c.args.others.now i) c.args.ids.now c.loop-id.common.items whole
