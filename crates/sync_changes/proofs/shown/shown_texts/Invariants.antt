use Rattle.std.proofs.Common.{◌≡◌, not, ◌&&◌, map, filter, take}
use Rattle.std.specs.BTreeSet.{contains}
use Rattle.bundle_codec.specs.Views.{lent}
use Rattle.op_core.specs.Ids.{id_cmp}
use Rattle.sync_changes.specs.Loops.Parts.{in_part}
use Rattle.sync_changes.proofs.shown.shown_texts.Given as goal

abbrev pub invariant-loop-op : goal.invariant-loop-op
invariant-loop-op l =
    map lent l.texts.items
    ≡ map (λ o. o.text) (filter (λ o. in_part l.part o.id && not (contains id_cmp l.named o.id)) (take l.op-index l.ops))
