use Rattle.std.proofs.Common.{◌≡◌, ◌++◌}
use Rattle.std.specs.List.{flat_map}
use Rattle.bundle_codec.specs.Spelling.{operation, bundle}
use Rattle.bundle_codec.proofs.writing.encode_after.Given as goal

abbrev pub invariant-loop-op : goal.invariant-loop-op
invariant-loop-op l = l.bytes.items ++ flat_map operation l.op-iterator ≡ l.fn.bytes.items ++ bundle l.set
