use Rattle.std.proofs.Common.{◌≡◌, ◌++◌, length, string_bytes}
use Rattle.std.specs.List.{filter}
use Rattle.verse_cut.specs.Views.{pieces_view}
use Rattle.plain_reading.specs.Loops.{gaps_with}
use Rattle.plain_reading.specs.Parts.{has, joined, gaps, pieces_in}
use Rattle.plain_reading.proofs.part.select.Given as goal

-- what was taken so far, and the pieces that are left
abbrev pub invariant-pieces : goal.invariant-pieces
invariant-pieces l =
    let rest = filter (λ p. has l.part p.key) (pieces_view l.rest) in
    (string_bytes l.selected.text ++ joined rest ≡ joined (pieces_in l.part l.text))
    × (gaps_with l.selected l.left rest ≡ gaps 0 l.conflicts (pieces_in l.part l.text))

abbrev pub decreases-pieces : goal.decreases-pieces
decreases-pieces l = length l.rest
