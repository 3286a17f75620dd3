use Rattle.std.proofs.Common.{◌≡◌, ◌++◌, length, map}
use Rattle.std.specs.List.{flat_map}
use Rattle.bundle_codec.specs.Spelling.{operation, bundle}
use Rattle.bundle_codec.proofs.writing.encode_ops.Given as goal

abbrev pub invariant-ops : goal.invariant-ops
invariant-ops l =
    l.bytes.items ++ flat_map operation (map (λ op. op.now) l.left) ≡ bundle (map (λ op. op.now) l.ops)

abbrev pub decreases-ops : goal.decreases-ops
decreases-ops l = length l.left
