use Rattle.std.proofs.Common.{◌≡◌, ◌++◌, take}
use Rattle.std.specs.List.{flat_map}
use Rattle.project_page.specs.Pages.{id_line}
use Rattle.project_page.specs.Said.{said}
use Rattle.project_page.specs.declared.markup.TheConstants as html
use Rattle.project_page.proofs.whole.push_awaited.Given as goal

-- the ids so far
abbrev pub invariant-loop-id : goal.invariant-loop-id
invariant-loop-id l =
    l.page.items ≡ l.initial.page.items ++ flat_map (id_line said html.AWAITED_BY.now) (take l.id-index l.ids)
