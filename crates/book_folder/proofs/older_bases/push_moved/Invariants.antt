use Rattle.std.proofs.Common.{◌≡◌, ◌+◌, ◌++◌, length, map}
use Rattle.book_folder.specs.OlderBases.{moved_from}
use Rattle.book_folder.specs.Settling.{moved_view}
use Rattle.book_folder.proofs.older_bases.push_moved.Given as goal

abbrev pub invariant-older : goal.invariant-older
invariant-older l =
    (map moved_view l.moved.items ++ moved_from l.at l.books l.newer (map (λ b. b.items) l.left)
    ≡ map moved_view l.fn.moved.items ++ moved_from 0 l.books l.fn.base (map (λ b. b.items) l.older))
    × (l.at + length l.left ≡ length l.older)

abbrev pub decreases-older : goal.decreases-older
decreases-older l = length l.left
