use Rattle.std.proofs.Common.{◌≡◌, ◌+◌, length, map}
use Rattle.book_folder.specs.Coming as comes
use Rattle.book_folder.specs.Refusals.{stepped}
use Rattle.book_folder.proofs.coming.receive_bundles.Given as goal

abbrev pub invariant-bundles : goal.invariant-bundles
invariant-bundles l =
    (comes.bundles_from l.wishes.joined l.at (stepped l.replica l.made.items) (map (λ b. b.items) l.left)
    ≡ comes.bundles_begun l.wishes.joined l.fn.replica (map (λ b. b.items) l.bundles))
    × (l.at + length l.left ≡ length l.bundles)

abbrev pub decreases-bundles : goal.decreases-bundles
decreases-bundles l = length l.left
