use Rattle.std.proofs.Common.{◌≡◌, ◌++◌, take}
use Rattle.std.specs.List.{flat_map}
use Rattle.sync_changes.specs.Lines.{named_line}
use Rattle.sync_changes.proofs.lines.push_named.Given as goal

abbrev pub invariant-loop-item : goal.invariant-loop-item
invariant-loop-item l = l.text.items ≡ l.fn.text.items ++ flat_map (named_line l.word) (take l.item-index l.few)
