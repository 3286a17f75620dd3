use Rattle.std.proofs.Common.{◌≡◌, not, ◌&&◌, map, filter, take}
use Rattle.std.specs.BTreeSet.{contains}
use Rattle.op_core.specs.Ids.{id_cmp}
use Rattle.sync_changes.specs.Loops.Parts.{in_part}
use Rattle.sync_changes.specs.declared.part.Part.TheVariants.{All}
use Rattle.sync_changes.proofs.shown.shown_ids.Given as goal

abbrev pub invariant-loop-op : goal.invariant-loop-op
invariant-loop-op l =
    l.ids.items ≡ map (λ o. o.id) (filter (λ o. in_part All o.id && not (contains id_cmp l.named o.id)) (take l.op-index l.ops))
