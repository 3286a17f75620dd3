use Rattle.std.proofs.Common.{◌≡◌, ◌+◌, length, map}
use Rattle.book_folder.specs.Begun as begun
use Rattle.book_folder.proofs.begun.union_of.Given as goal

abbrev pub invariant-bases : goal.invariant-bases
invariant-bases l =
    (begun.bases_from l.at l.base (map (λ b. b.items) l.left) ≡ begun.union_of (map (λ b. b.items) l.bases))
    × (l.at + length l.left ≡ length l.bases)

abbrev pub decreases-bases : goal.decreases-bases
decreases-bases l = length l.left
