use Rattle.std.proofs.Common.{◌≡◌, ◌++◌, take}
use Rattle.std.specs.List.{flat_map}
use Rattle.op_core.specs.Shown.{picked}
use Rattle.conflict_settling.specs.Entries.{views}
use Rattle.project_page.specs.Pages.{entry}
use Rattle.project_page.specs.Said.{said}
use Rattle.project_page.proofs.conflict.push_entries.Given as goal

-- the texts so far
abbrev pub invariant-loop-entry : goal.invariant-loop-entry
invariant-loop-entry l =
    l.page.items ≡ l.initial.page.items ++ flat_map (entry said (picked l.picked)) (views (take l.entry-index l.entries))
