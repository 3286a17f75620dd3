use Rattle.std.proofs.Common.{◌≡◌, ◌++◌, length}
use Rattle.std.specs.List.{flat_map}
use Rattle.verse_cut.specs.Views.{pieces_view}
use Rattle.missing_verses.specs.Lines.{empty_line}
use Rattle.missing_verses.proofs.lines.push_empty.Given as goal

-- the lines so far, and those of the pieces that are left
abbrev pub invariant-pieces : goal.invariant-pieces
invariant-pieces l =
    l.bytes.items ++ flat_map (empty_line l.book) (pieces_view l.left)
    ≡ l.fn.bytes.items ++ flat_map (empty_line l.book) (pieces_view l.fn.own)

abbrev pub decreases-pieces : goal.decreases-pieces
decreases-pieces l = length l.left
