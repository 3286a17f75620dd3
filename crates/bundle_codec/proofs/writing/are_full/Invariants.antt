use Rattle.std.proofs.Common.{◌≡◌, length, map}
use Rattle.op_core.specs.Thinned.{all_full}
use Rattle.bundle_codec.proofs.writing.are_full.Given as goal

abbrev pub invariant-ops : goal.invariant-ops
invariant-ops l = all_full (map (λ op. op.now) l.left) ≡ all_full (map (λ op. op.now) l.ops)

abbrev pub decreases-ops : goal.decreases-ops
decreases-ops l = length l.left
