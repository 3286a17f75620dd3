use Rattle.std.proofs.Common.{◌≡◌, ◌++◌, length, map}
use Rattle.std.specs.List.{flat_map}
use Rattle.bundle_codec.specs.Spelling.{operation, bundle}
use Rattle.bundle_codec.proofs.writing.encode_views.Given as goal

abbrev pub invariant-views : goal.invariant-views
invariant-views l =
    l.bytes.items ++ flat_map operation (map (λ view. view.now) l.left) ≡ bundle (map (λ view. view.now) l.views)

abbrev pub decreases-views : goal.decreases-views
decreases-views l = length l.left
