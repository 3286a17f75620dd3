use Rattle.std.proofs.Common.{◌≡◌, ◌++◌, map}
use Rattle.verse_cut.specs.Views.{pieces_view}
use Rattle.book_folder.specs.Stale as stale
use Rattle.book_folder.proofs.stale.ops_by_unlike.Given as goal

abbrev pub invariant-loop-op : goal.invariant-loop-op
invariant-loop-op l =
    (l.cursor ≡ l.base.held)
    × (map (λ op. op.now) l.ops.items
    ++ stale.ops_by_unlike l.is_unlike l.base.held l.book (pieces_view l.pieces) l.op-iterator
    ≡ stale.ops_by_unlike l.is_unlike l.base.held l.book (pieces_view l.pieces) l.replica.held)
