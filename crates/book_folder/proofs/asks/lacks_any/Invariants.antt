use Rattle.std.proofs.Common.{◌≡◌}
use Rattle.std.specs.List.{list_any}
use Rattle.verse_cut.specs.Views.{pieces_view}
use Rattle.book_folder.specs.Asks as asks
use Rattle.book_folder.proofs.asks.lacks_any.Given as goal

abbrev pub invariant-loop-key : goal.invariant-loop-key
invariant-loop-key l =
    (l.older ≡ l.fn.older.held)
    × ((l.newer ≡ l.base.held)
    × (list_any (asks.lacks_newer l.fn.older.held l.base.held l.own l.book (pieces_view l.pieces)) l.key-iterator
    ≡ asks.lacks_any l.fn.older.held l.base.held l.own l.book (pieces_view l.pieces)))
