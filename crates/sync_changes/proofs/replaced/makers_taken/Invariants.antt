use Rattle.std.proofs.Common.{◌≡◌, map, filter, take}
use Rattle.sync_changes.specs.Loops.Parts.{is_taken}
use Rattle.sync_changes.proofs.replaced.makers_taken.Given as goal

abbrev pub invariant-loop-id : goal.invariant-loop-id
invariant-loop-id l =
    l.names.items ≡ map (λ id. id.name) (filter (is_taken l.files l.named l.sets) (take l.id-index l.ids))
