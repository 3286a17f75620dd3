use Rattle.std.proofs.Common.{◌≡◌, ◌++◌, take}
use Rattle.std.specs.List.{flat_map}
use Rattle.sync_changes.specs.Lines.{removed_line}
use Rattle.sync_changes.proofs.lines.push_removed.Given as goal

abbrev pub invariant-loop-segment : goal.invariant-loop-segment
invariant-loop-segment l = l.text.items ≡ l.fn.text.items ++ flat_map removed_line (take l.segment-index l.few)
