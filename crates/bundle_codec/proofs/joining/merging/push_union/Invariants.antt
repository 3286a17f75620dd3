use Rattle.std.proofs.Common.{◌+◌, length}
use Rattle.bundle_codec.proofs.Merges.{Kept}
use Rattle.bundle_codec.proofs.joining.merging.push_union.Given as goal

abbrev pub invariant-union : goal.invariant-union
invariant-union l = Kept l.fn.left l.fn.right l.fn.bytes.items l.bytes.items l.full l.count l.left l.right

abbrev pub decreases-union : goal.decreases-union
decreases-union l = length l.left + length l.right
