use Rattle.std.proofs.Common.{◌≡◌, ◌++◌, map, take}
use Rattle.project_status.proofs.makers.push_names.Given as goal

abbrev pub invariant-loop-id : goal.invariant-loop-id
invariant-loop-id l = l.names.items ≡ l.fn.names.items ++ map (λ id. id.name) (take l.id-index l.ids)
