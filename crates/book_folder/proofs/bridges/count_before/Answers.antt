use Rattle.std.proofs.Common.{rules, of_calls}
use Rattle.std.specs.Ordering.{is_lt}
use Rattle.std.proofs.lemmas.List.Sorted.{IsPartitionPoint-from_clause}
use Rattle.usfm_ref.specs.Keys.{key_cmp}
use Rattle.usfm_ref.proofs.Orders.{key_total}
use Rattle.usfm_ref.proofs.Sorted.{parted}
use Rattle.usfm_ref.proofs.Placed.{partition_place}
use Rattle.verse_cut.specs.declared.cutter.Piece.{Piece}
use Rattle.book_folder.proofs.bridges.count_before.Goals as goal

pub returns-clause-place : goal.returns-clause-place
returns-clause-place c =
    let xs = c.args.pieces.now in
    let p = λ (e : Piece). is_lt (key_cmp e.key c.args.key) in
    partition_place p xs _ c.partition_point.ensures.bound
    (IsPartitionPoint-from_clause p xs _ c.partition_point.ensures.partitioned
    (parted key_cmp key_total (λ (e : Piece). e.key) c.args.key xs c.requires.rising) (λ a r f k. search (rules, of_calls)))
