use Rattle.std.proofs.Common.{◌≡◌, take}
use Rattle.std.specs.BTreeSet.{contains}
use Rattle.std.specs.List.{list_any}
use Rattle.op_core.specs.Ids.{Id, id_cmp, same_id}
use Rattle.sync_changes.proofs.older.set_of.Given as goal

abbrev pub invariant-loop-id : goal.invariant-loop-id
invariant-loop-id l = (q : Id) → contains id_cmp l.set q ≡ list_any (same_id q) (take l.id-index l.ids)
