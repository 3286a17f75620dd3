use Rattle.std.proofs.Common.{◌≡◌}
use Rattle.op_core.specs.Thinned.{all_full}
use Rattle.bundle_codec.proofs.writing.is_full.Given as goal

abbrev pub invariant-loop-op : goal.invariant-loop-op
invariant-loop-op l = all_full l.op-iterator ≡ all_full l.set
