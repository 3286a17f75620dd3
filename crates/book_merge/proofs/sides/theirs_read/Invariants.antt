use Rattle.std.proofs.Common.{◌≡◌, string_bytes, take}
use Rattle.std.specs.List.{flat_map}
use Rattle.verse_cut.specs.Views.{piece_view, pieces_view}
use Rattle.book_merge.specs.Sides as sides
use Rattle.book_merge.proofs.sides.theirs_read.Given as goal

-- the texts of the pieces so far
abbrev pub invariant-loop-piece : goal.invariant-loop-piece
invariant-loop-piece l =
    string_bytes l.read
    ≡ flat_map (λ p. sides.theirs_piece (pieces_view l.base) (pieces_view l.ours) (piece_view p)) (take l.piece-index l.theirs)
