use Rattle.std.proofs.Common.{rules, of_calls}
use Rattle.std.proofs.lemmas.List.Sorted.{IsPartitionPoint-from_clause}
use Rattle.usfm_ref.proofs.Sorted.{parted}
use Rattle.usfm_ref.proofs.Placed.{partition_place}
use Rattle.op_core.specs.Ids.{Id, id_cmp, id_below}
use Rattle.op_core.proofs.IdOrders.Rising.{id_total}
use Rattle.replica_state.proofs.ids.place_id.Goals as goal

pub returns-clause-place : goal.returns-clause-place
returns-clause-place c =
    let ids = c.args.ids.now in
    let p = λ (i : Id). id_below i c.args.id in
    partition_place p ids _ c.partition_point.ensures.bound
    (IsPartitionPoint-from_clause p ids _ c.partition_point.ensures.partitioned
    (parted id_cmp id_total (λ (i : Id). i) c.args.id ids c.requires.rising) (λ a r f k. search (rules, of_calls)))
