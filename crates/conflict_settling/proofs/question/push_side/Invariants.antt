use Rattle.std.proofs.Common.{◌≡◌, ◌++◌, take}
use Rattle.std.specs.List.{flat_map}
use Rattle.conflict_settling.specs.Questions.{part_on}
use Rattle.conflict_settling.proofs.question.push_side.Given as goal

-- the parts so far
abbrev pub invariant-loop-part : goal.invariant-loop-part
invariant-loop-part l =
    l.bytes.items ≡ l.fn.bytes.items ++ flat_map (part_on l.manner l.is_first) (take l.part-index l.part-items)
