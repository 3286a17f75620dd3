use Rattle.std.proofs.Common.{◌≡◌, ◌++◌, length}
use Rattle.std.specs.List.{flat_map}
use Rattle.verse_cut.specs.Views.{pieces_view}
use Rattle.versification.specs.Views.{verses_in}
use Rattle.missing_verses.specs.Lines.{beyond_line}
use Rattle.missing_verses.proofs.lines.push_beyond.Given as goal

-- the lines so far, and those of the pieces that are left
abbrev pub invariant-pieces : goal.invariant-pieces
invariant-pieces l =
    let line = beyond_line (verses_in l.chapter.versification.now) l.chapter.book l.chapter.number in
    l.bytes.items ++ flat_map line (pieces_view l.left) ≡ l.fn.bytes.items ++ flat_map line (pieces_view l.fn.own)

abbrev pub decreases-pieces : goal.decreases-pieces
decreases-pieces l = length l.left
