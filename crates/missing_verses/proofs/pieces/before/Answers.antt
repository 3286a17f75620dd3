use Rattle.std.proofs.Common.{rules, of_calls}
use Rattle.std.specs.Ordering.{is_lt}
use Rattle.std.proofs.lemmas.List.Sorted.{IsPartitionPoint-from_clause}
use Rattle.usfm_ref.specs.Keys.{key_cmp}
use Rattle.usfm_ref.proofs.Orders.{key_total}
use Rattle.usfm_ref.proofs.Sorted.{parted}
use Rattle.usfm_ref.proofs.Placed.{partition_place}
use Rattle.verse_cut.specs.declared.cutter.Piece.{Piece}
use Rattle.missing_verses.proofs.Chapters.{rises_view}
use Rattle.missing_verses.proofs.pieces.before.Goals as goal

pub returns-clause-value : goal.returns-clause-value
returns-clause-value c =
    let xs = c.args.pieces.now in
    let p = λ (x : Piece). is_lt (key_cmp x.key c.args.key) in
    partition_place p xs _ c.partition_point.ensures.bound
    (IsPartitionPoint-from_clause p xs _ c.partition_point.ensures.partitioned
    (parted key_cmp key_total (λ (x : Piece). x.key) c.args.key xs (rises_view xs c.requires))
    (λ a r f k. search (rules, of_calls)))
