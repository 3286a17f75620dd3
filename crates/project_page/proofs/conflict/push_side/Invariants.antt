use Rattle.std.proofs.Common.{◌≡◌, ◌++◌, take}
use Rattle.std.specs.List.{flat_map}
use Rattle.project_page.specs.Pages.{part_on}
use Rattle.project_page.specs.Said.{said}
use Rattle.project_page.proofs.conflict.push_side.Given as goal

-- the parts so far
abbrev pub invariant-loop-part : goal.invariant-loop-part
invariant-loop-part l =
    l.page.items ≡ l.fn.page.items ++ flat_map (part_on said l.is_first) (take l.part-index l.parts)
