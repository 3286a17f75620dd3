use Rattle.std.proofs.Common.{◌≡◌, ◌++◌, length, map, filter}
use Rattle.verse_cut.specs.Views.{pieces_view}
use Rattle.book_folder.specs.Taking as taking
use Rattle.book_folder.proofs.taking.push_stood_at.Given as goal

abbrev pub invariant-keys : goal.invariant-keys
invariant-keys l =
    (l.cursor ≡ l.base.held)
    × (map taking.stood_view l.stood.items ++ map (taking.stood_at l.book (pieces_view l.pieces))
    (filter (taking.has_other l.base.held l.book (pieces_view l.pieces)) l.left)
    ≡ map taking.stood_view l.fn.stood.items ++ map (taking.stood_at l.book (pieces_view l.pieces))
    (filter (taking.has_other l.base.held l.book (pieces_view l.pieces)) l.keys))

abbrev pub decreases-keys : goal.decreases-keys
decreases-keys l = length l.left
