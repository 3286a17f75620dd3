use Rattle.std.proofs.Common.{◌≡◌, ◌++◌, length}
use Rattle.verse_cut.specs.Views.{pieces_view}
use Rattle.missing_verses.specs.Numbers.{covers_of}
use Rattle.missing_verses.proofs.pieces.covers_of.Given as goal

-- what is covered so far, and by the pieces that are left
abbrev pub invariant-pieces : goal.invariant-pieces
invariant-pieces l = l.covers.items ++ covers_of (pieces_view l.left) ≡ covers_of (pieces_view l.fn.pieces)

abbrev pub decreases-pieces : goal.decreases-pieces
decreases-pieces l = length l.left
