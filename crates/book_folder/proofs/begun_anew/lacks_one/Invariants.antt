use Rattle.std.proofs.Common.{◌≡◌, ◌+◌, length, map, option_map}
use Rattle.book_folder.specs.BegunAnew as anew
use Rattle.book_folder.proofs.begun_anew.lacks_one.Given as goal

abbrev pub invariant-bases : goal.invariant-bases
invariant-bases l =
    (anew.lacks_from l.project.held l.at (map (λ b. b.items) l.left) (option_map (λ b. b.now) l.fn.next)
    ≡ anew.lacks_from l.project.held 0 (map (λ b. b.items) l.bases) (option_map (λ b. b.now) l.fn.next))
    × (l.at + length l.left ≡ length l.bases)

abbrev pub decreases-bases : goal.decreases-bases
decreases-bases l = length l.left
