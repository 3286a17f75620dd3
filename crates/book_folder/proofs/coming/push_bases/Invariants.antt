use Rattle.std.proofs.Common.{◌≡◌, ◌++◌, length, map}
use Rattle.book_folder.proofs.coming.push_bases.Given as goal

abbrev pub invariant-bases : goal.invariant-bases
invariant-bases l =
    map (λ b. b.now) l.made.items ++ map (λ b. b.items) l.left
    ≡ map (λ b. b.now) l.fn.made.items ++ map (λ b. b.items) l.bases

abbrev pub decreases-bases : goal.decreases-bases
decreases-bases l = length l.left
