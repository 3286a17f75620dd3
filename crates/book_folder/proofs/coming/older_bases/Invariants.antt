use Rattle.std.proofs.Common.{◌≡◌, ◌+◌, [], length, map}
use Rattle.book_folder.specs.Coming as comes
use Rattle.book_folder.proofs.coming.older_bases.Given as goal

abbrev pub invariant-older : goal.invariant-older
invariant-older l =
    (comes.older_from l.name l.at l.made.items (map (λ b. b.now) l.left)
    ≡ comes.older_from l.name 0 [] (map (λ b. b.now) l.older))
    × (l.at + length l.left ≡ length l.older)

abbrev pub decreases-older : goal.decreases-older
decreases-older l = length l.left
