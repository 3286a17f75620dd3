use Rattle.std.proofs.Common.{◌≡◌, ◌++◌, drop}
use Rattle.std.specs.List.{flat_map}
use Rattle.bundle_codec.specs.Spelling.{id, ids}
use Rattle.bundle_codec.proofs.writing.push_ids.Given as goal

abbrev pub invariant-loop-id : goal.invariant-loop-id
invariant-loop-id l = l.bytes.items ++ flat_map id (drop l.id-index l.named) ≡ l.fn.bytes.items ++ ids l.named
