use Rattle.std.proofs.Common.{◌≡◌, ◌++◌, filter}
use Rattle.verse_cut.specs.Views.{pieces_view}
use Rattle.book_folder.specs.Asks as asks
use Rattle.book_folder.proofs.asks.undone_keys.Given as goal

abbrev pub invariant-loop-key : goal.invariant-loop-key
invariant-loop-key l =
    (l.older ≡ l.fn.older.held)
    × ((l.newer ≡ l.base.held)
    × (l.undone.items
    ++ filter (asks.is_undone l.fn.older.held l.base.held l.own l.book (pieces_view l.pieces)) l.key-iterator
    ≡ asks.undone_keys l.fn.older.held l.base.held l.own l.book (pieces_view l.pieces)))
