use Rattle.std.proofs.Common.{◌≡◌, ◌++◌, None, length}
use Rattle.verse_cut.specs.Views.{pieces_view}
use Rattle.book_folder.specs.BridgeLoops as loops
use Rattle.book_folder.proofs.bridges.farthest.Given as goal

abbrev pub invariant-pieces : goal.invariant-pieces
invariant-pieces l =
    l.made.items ++ loops.farthest_from l.far (pieces_view l.left) ≡ loops.farthest_from None (pieces_view l.pieces)

abbrev pub decreases-pieces : goal.decreases-pieces
decreases-pieces l = length l.left
