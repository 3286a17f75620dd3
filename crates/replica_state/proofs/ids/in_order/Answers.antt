use Rattle.std.proofs.Common.{◌≡◌, List, rules, ap, ◌∙◌}
use Rattle.std.proofs.lemmas.List.Filters.{dedup_is}
use Rattle.op_core.specs.Ids.{Id, same_id}
use Rattle.op_core.specs.NextIds.{is_among}
use Rattle.op_core.proofs.IdOrders.IdSets.{sorted_rises, sorted_members}
use Rattle.replica_state.proofs.ids.in_order.Goals as goal

pub returns-clause-rising : goal.returns-clause-rising
returns-clause-rising c =
    sorted_rises c.sort_unstable.new.self.items c.dedup.new.self.items c.sort_unstable.ensures.sorted
    (dedup_is same_id c.sort_unstable.new.self.items c.dedup.new.self.items c.dedup.ensures.filtered)

pub returns-clause-members : goal.returns-clause-members
returns-clause-members c = λ q.
    let copied : c.in_ok-rising.rising.items ≡ c.args.ids.now = search rules in
    sorted_members c.in_ok-rising.rising.items c.sort_unstable.new.self.items c.dedup.new.self.items
    c.sort_unstable.ensures.permutation (dedup_is same_id c.sort_unstable.new.self.items c.dedup.new.self.items
    c.dedup.ensures.filtered) q ∙ ap (λ (ids : List Id). is_among ids q) copied
