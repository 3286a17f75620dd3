use Rattle.std.proofs.Common.{◌≡◌, take}
use Rattle.std.specs.List.{flat_map}
use Rattle.usfm_cli.specs.Restorings.{count_line}
use Rattle.usfm_cli.proofs.restoring.restored_lines.Given as goal

abbrev pub invariant-loop-book : goal.invariant-loop-book
invariant-loop-book l = l.lines.items ≡ flat_map (count_line l.edits) (take l.book-index l.book-items)
