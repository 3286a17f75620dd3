use Rattle.std.proofs.Common.{◌≡◌, ◌++◌, take}
use Rattle.project_status.specs.Lines.{more_makers}
use Rattle.project_status.proofs.status.push_more.Given as goal

abbrev pub invariant-loop-maker : goal.invariant-loop-maker
invariant-loop-maker l = l.text.items ≡ l.fn.text.items ++ more_makers (take l.maker-index l.makers)
