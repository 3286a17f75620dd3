use Rattle.std.proofs.Common.{◌≡◌, ◌++◌, take}
use Rattle.std.specs.List.{flat_map}
use Rattle.conflict_settling.specs.Entries.{views}
use Rattle.project_page.specs.Pages.{id_word}
use Rattle.project_page.specs.Said.{said}
use Rattle.project_page.proofs.conflict.push_entry_ids.Given as goal

-- the ids so far
abbrev pub invariant-loop-entry : goal.invariant-loop-entry
invariant-loop-entry l =
    l.page.items ≡ l.fn.page.items ++ flat_map (λ e. id_word said e.op.id) (views (take l.entry-index l.entries))
