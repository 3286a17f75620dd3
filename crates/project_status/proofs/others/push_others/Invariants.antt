use Rattle.std.proofs.Common.{◌≡◌, ◌++◌, take}
use Rattle.std.specs.List.{flat_map}
use Rattle.project_status.specs.Others.{other_lines}
use Rattle.project_status.proofs.others.push_others.Given as goal

abbrev pub invariant-loop-other : goal.invariant-loop-other
invariant-loop-other l =
    l.text.items ≡ l.fn.text.items ++ flat_map (other_lines l.set) (take l.other-index l.others)
