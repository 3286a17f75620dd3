use Rattle.std.proofs.Common.{◌≡◌, take}
use Rattle.op_core.specs.Ids.{Id}
use Rattle.op_core.specs.NextIds.{is_among}
use Rattle.op_core.specs.Thinned.{is_thinned_in}
use Rattle.op_core.proofs.set.thinning.ids.Given as goal

abbrev pub invariant-loop-op : goal.invariant-loop-op
invariant-loop-op l = (q : Id) → is_among l.ids.items q ≡ is_thinned_in (take l.op-index l.ops) q
