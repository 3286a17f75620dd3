use Rattle.std.proofs.Common.{◌≡◌, ◌++◌, take}
use Rattle.std.specs.List.{flat_map}
use Rattle.segment_history.specs.Lines.{history_lines}
use Rattle.segment_history.proofs.lines.push_histories.Given as goal

abbrev pub invariant-loop-history : goal.invariant-loop-history
invariant-loop-history l = l.text.items ≡ l.fn.text.items ++ flat_map history_lines (take l.history-index l.told)
