use Rattle.std.proofs.Common.{◌≡◌, length, map}
use Rattle.op_core.specs.Thinned.{all_full}
use Rattle.bundle_codec.proofs.writing.have_texts.Given as goal

abbrev pub invariant-views : goal.invariant-views
invariant-views l = all_full (map (λ view. view.now) l.left) ≡ all_full (map (λ view. view.now) l.views)

abbrev pub decreases-views : goal.decreases-views
decreases-views l = length l.left
