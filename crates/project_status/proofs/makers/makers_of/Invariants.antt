use Rattle.std.proofs.Common.{◌≡◌, map, take}
use Rattle.project_status.specs.Numbers.{maker_of}
use Rattle.project_status.proofs.makers.makers_of.Given as goal

abbrev pub invariant-loop-place : goal.invariant-loop-place
invariant-loop-place l = l.found.items ≡ map (maker_of l.fn.names) (take l.place l.once.items)
