use Rattle.std.proofs.Common.{◌≡◌, ◌++◌, take}
use Rattle.std.specs.List.{flat_map}
use Rattle.project_page.specs.Pages.{maker_row}
use Rattle.project_page.specs.Said.{said}
use Rattle.project_page.proofs.standing.push_makers.Given as goal

-- the makers so far
abbrev pub invariant-loop-maker : goal.invariant-loop-maker
invariant-loop-maker l =
    l.page.items ≡ l.fn.page.items ++ flat_map (maker_row said) (take l.maker-index l.makers)
