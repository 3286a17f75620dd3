use Rattle.std.proofs.Common.{◌≡◌, map, take}
use Rattle.op_core.specs.Thinned.{of_ids}
use Rattle.sync_changes.specs.Loops.Parts.{in_part}
use Rattle.sync_changes.proofs.gathered.makers.Given as goal

abbrev pub invariant-loop-op : goal.invariant-loop-op
invariant-loop-op l = l.names.items ≡ map (λ o. o.id.name) (of_ids (in_part l.part) (take l.op-index l.ops))
