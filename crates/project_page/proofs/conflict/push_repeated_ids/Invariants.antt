use Rattle.std.proofs.Common.{◌≡◌, ◌++◌, take, map}
use Rattle.std.specs.List.{flat_map}
use Rattle.project_page.specs.Pages.{id_word}
use Rattle.project_page.specs.Said.{said}
use Rattle.project_page.proofs.conflict.push_repeated_ids.Given as goal

-- the ids so far
abbrev pub invariant-loop-op : goal.invariant-loop-op
invariant-loop-op l =
    l.page.items ≡ l.fn.page.items ++ flat_map (λ o. id_word said o.id) (map (λ op. op.now) (take l.op-index l.ops))
