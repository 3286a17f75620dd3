use Rattle.std.proofs.Common.{◌≡◌, ◌++◌, length, map}
use Rattle.book_folder.specs.Refusals.{stepped}
use Rattle.book_folder.specs.Sifting as sifts
use Rattle.book_folder.proofs.sifting.sift_all.Given as goal

abbrev pub invariant-bundles : goal.invariant-bundles
invariant-bundles l =
    let rest = sifts.sifted l.wishes.joined l.replica (map (λ b. b.items) l.left) in
    stepped rest.after (l.made.items ++ rest.made)
    ≡ sifts.sifted l.wishes.joined l.fn.replica (map (λ b. b.items) l.bundles)

abbrev pub decreases-bundles : goal.decreases-bundles
decreases-bundles l = length l.left
