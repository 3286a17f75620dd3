use Rattle.std.proofs.Common.{◌≡◌, ◌+◌, length, map}
use Rattle.book_folder.specs.Begun as begun
use Rattle.book_folder.specs.Wanted.{wishes_view}
use Rattle.book_folder.proofs.begun.receive_bases.Given as goal

abbrev pub invariant-bases : goal.invariant-bases
invariant-bases l =
    (begun.with_bases (wishes_view l.wishes) l.at (begun.begun_view l.begun) (map (λ b. b.items) l.left)
    ≡ begun.with_bases (wishes_view l.wishes) 0 (begun.begun_view l.fn.begun) (map (λ b. b.items) l.bases))
    × (l.at + length l.left ≡ length l.bases)

abbrev pub decreases-bases : goal.decreases-bases
decreases-bases l = length l.left
