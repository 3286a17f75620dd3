use Rattle.std.proofs.Common.{◌≡◌, drop}
use Rattle.std.specs.Cmp.Lexicographic.{pointwise}
use Rattle.op_core.specs.Ids.{same_id}
use Rattle.bundle_codec.proofs.judging.ids.same_ids.Given as goal

abbrev pub invariant-loop-id : goal.invariant-loop-id
invariant-loop-id l = pointwise same_id (drop l.id-index l.ids) l.walk ≡ pointwise same_id l.ids l.fn.walk
