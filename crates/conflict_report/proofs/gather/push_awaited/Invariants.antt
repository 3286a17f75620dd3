use Rattle.std.proofs.Common.{◌≡◌, ◌++◌, take}
use Rattle.std.specs.List.{flat_map}
use Rattle.conflict_report.specs.Loops.Parts.{bytes_of}
use Rattle.conflict_report.specs.Reports.{awaited_line}
use Rattle.conflict_report.proofs.gather.push_awaited.Given as goal

-- the lines of the ids so far
abbrev pub invariant-loop-id : goal.invariant-loop-id
invariant-loop-id l =
    bytes_of l.parts.items ≡ bytes_of l.fn.parts.items ++ flat_map awaited_line (take l.id-index l.id-items)
