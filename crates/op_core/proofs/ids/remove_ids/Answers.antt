use Rattle.std.proofs.Common.{◌&&◌, List, not, ap, sym, ◌∙◌}
use Rattle.op_core.specs.Ids.{Id}
use Rattle.op_core.specs.NextIds.{is_among}
use Rattle.op_core.proofs.IdOrders.IdLists.{without_rises}
use Rattle.op_core.proofs.IdOrders.IdSets.{filter_rises, filter_members, no_longer, only_one}
use Rattle.op_core.proofs.ids.remove_ids.Goals as goal

pub returns-in-len1-clause-rising : goal.returns-in-len1-clause-rising
returns-in-len1-clause-rising c =
    without_rises c.id-item.result c.args.ids.now.items c.remove_id.new.ids.items c.remove_id.ensures.items c.requires.rising

pub returns-in-len1-clause-members : goal.returns-in-len1-clause-members
returns-in-len1-clause-members c = λ q.
    no_longer q c.id-item.result c.args.ids.now.items c.remove_id.new.ids.items c.remove_id.ensures.items
    ∙ ap (λ (ids : List Id). is_among c.args.ids.now.items q && not (is_among ids q))
    (sym (only_one c.args.others.now c.id-item.result c.in-len1.len_at_least c.in-len1.len_below c.id-item.is))

pub returns-in_default-clause-rising : goal.returns-in_default-clause-rising
returns-in_default-clause-rising c = filter_rises (λ i. not (is_among c.args.others.now i)) c.args.ids.now.items c.sift_ids.new.ids.items
    c.sift_ids.ensures.items c.requires.rising

pub returns-in_default-clause-members : goal.returns-in_default-clause-members
returns-in_default-clause-members c =
    filter_members (λ i. not (is_among c.args.others.now i)) c.args.ids.now.items c.sift_ids.new.ids.items c.sift_ids.ensures.items
