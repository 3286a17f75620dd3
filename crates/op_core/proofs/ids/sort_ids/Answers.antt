use Rattle.std.proofs.Common.{rules}
use Rattle.std.specs.Ordering.{is_lt}
use Rattle.std.proofs.lemmas.List.Filters.{dedup_is}
use Rattle.std.proofs.lemmas.List.Sorted.{answers_always}
use Rattle.op_core.specs.Ids.{Id, id_cmp, same_id}
use Rattle.op_core.proofs.IdOrders.IdSets.{ids_rank, sorted_rises, sorted_members}
use Rattle.op_core.proofs.ids.sort_ids.Goals as goal

pub returns-clause-rising : goal.returns-clause-rising
returns-clause-rising c =
    let in_order =
    c.sort_unstable_by.ensures.sorted (λ (x y : Id). is_lt (id_cmp x y)) ids_rank (answers_always _ _ _ (λ f a r f' k. search rules)) in
    sorted_rises c.sort_unstable_by.new.self.items c.dedup.new.self.items in_order
    (dedup_is same_id c.sort_unstable_by.new.self.items c.dedup.new.self.items c.dedup.ensures.filtered)

pub returns-clause-members : goal.returns-clause-members
returns-clause-members c = sorted_members c.args.ids.now.items c.sort_unstable_by.new.self.items c.dedup.new.self.items
    c.sort_unstable_by.ensures.permutation (dedup_is same_id c.sort_unstable_by.new.self.items c.dedup.new.self.items
    c.dedup.ensures.filtered)
