use Rattle.std.proofs.Common.{◌≡◌, ◌++◌, filter, None}
use Rattle.verse_cut.specs.Views.{pieces_view}
use Rattle.book_folder.specs.Asks as asks
use Rattle.book_folder.specs.BridgeLoops.{farthest_from}
use Rattle.book_folder.proofs.asks.gone_keys.Given as goal

abbrev pub invariant-loop-key : goal.invariant-loop-key
invariant-loop-key l =
    (l.cursor ≡ l.base.held)
    × ((l.far.items ≡ farthest_from None (pieces_view l.pieces))
    × (l.keys.items ++ filter (asks.is_gone l.base.held l.book (pieces_view l.pieces)) l.key-iterator
    ≡ asks.gone_keys l.base.held l.book (pieces_view l.pieces)))
