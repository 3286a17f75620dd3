use Rattle.std.proofs.Common.{◌≡◌, ◌++◌, take}
use Rattle.std.specs.BTreeSet.{contains}
use Rattle.op_core.specs.Ids.{id_cmp}
use Rattle.op_core.specs.Lists.{ids_of}
use Rattle.segment_history.specs.Histories.{awaited_in}
use Rattle.segment_history.proofs.ids.falling_ids.Given as goal

abbrev pub invariant-loop-op : goal.invariant-loop-op
invariant-loop-op l = l.ids.items ≡ ids_of l.ops ++ awaited_in (take l.op-index l.ops) (contains id_cmp l.awaited)
