use Rattle.std.proofs.Common.{◌≡◌, length}
use Rattle.verse_cut.specs.Views.{pieces_view}
use Rattle.book_folder.specs.Asks as asks
use Rattle.book_folder.proofs.asks.undone.Given as goal

abbrev pub invariant-older : goal.invariant-older
invariant-older l =
    asks.undone l.left l.beside.base.now.held l.own l.book (pieces_view l.pieces)
    ≡ asks.undone l.beside.older.now l.beside.base.now.held l.own l.book (pieces_view l.pieces)

abbrev pub decreases-older : goal.decreases-older
decreases-older l = length l.left
