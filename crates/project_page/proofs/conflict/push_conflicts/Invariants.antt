use Rattle.std.proofs.Common.{◌≡◌, ◌++◌, take, map}
use Rattle.std.specs.List.{flat_map}
use Rattle.project_page.specs.Pages.{conflict}
use Rattle.project_page.specs.Parts.{conflict_view}
use Rattle.project_page.specs.Said.{said}
use Rattle.project_page.proofs.conflict.push_conflicts.Given as goal

-- the conflicts so far
abbrev pub invariant-loop-conflict : goal.invariant-loop-conflict
invariant-loop-conflict l =
    l.page.items ≡ l.initial.page.items ++ flat_map (conflict said) (map conflict_view (take l.conflict-index l.conflicts))
