use Rattle.std.proofs.Common.{◌≡◌, take}
use Rattle.std.specs.List.{flat_map}
use Rattle.segment_history.specs.ChangeLines.{changed_lines}
use Rattle.segment_history.proofs.change_lines.changes_text.Given as goal

abbrev pub invariant-loop-changed : goal.invariant-loop-changed
invariant-loop-changed l = l.text.items ≡ flat_map (changed_lines l.texts) (take l.changed-index l.changes)
