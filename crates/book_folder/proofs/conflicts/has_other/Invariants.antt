use Rattle.std.proofs.Common.{◌≡◌, length, map}
use Rattle.std.specs.List.{list_any}
use Rattle.book_folder.specs.Begun as begun
use Rattle.book_folder.proofs.conflicts.has_other.Given as goal

abbrev pub invariant-ops : goal.invariant-ops
invariant-ops l =
    list_any (begun.has_other_text l.text) (map (λ op. op.now) l.left)
    ≡ list_any (begun.has_other_text l.text) (map (λ op. op.now) l.ops)

abbrev pub decreases-ops : goal.decreases-ops
decreases-ops l = length l.left
