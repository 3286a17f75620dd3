use Rattle.std.proofs.Common.{◌≡◌, ◌++◌}
use Rattle.bundle_codec.proofs.bundle.Bundle.to_set.Given as goal

abbrev pub invariant-loop-view : goal.invariant-loop-view
invariant-loop-view l = l.ops.items ++ l.view-iterator ≡ l.self
