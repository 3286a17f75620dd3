use Rattle.std.proofs.Common.{◌≡◌, ◌++◌, filter}
use Rattle.std.specs.BTreeSet.{contains}
use Rattle.op_core.specs.Ids.{id_cmp}
use Rattle.segment_history.proofs.ids.push_awaited.Given as goal

abbrev pub invariant-loop-id : goal.invariant-loop-id
invariant-loop-id l =
    l.ids.items ++ filter (contains id_cmp l.awaited) l.id-iterator
    ≡ l.fn.ids.items ++ filter (contains id_cmp l.awaited) l.op.replaced
