use Rattle.std.proofs.Common.{◌≡◌, map, take}
use Rattle.std.specs.List.{count_by}
use Rattle.usfm_ref.specs.Books.{same_bytes}
use Rattle.project_status.proofs.makers.counts.Given as goal

abbrev pub invariant-loop-name : goal.invariant-loop-name
invariant-loop-name l =
    l.counts.items ≡ map (λ name. count_by (same_bytes name) (take l.name-index l.names)) l.once
