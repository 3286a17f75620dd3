use Rattle.std.proofs.Common.{◌≡◌, take}
use Rattle.book_reports.specs.Lines.{finding_lines}
use Rattle.book_reports.proofs.lines.finding_lines.Given as goal

abbrev pub invariant-loop-finding : goal.invariant-loop-finding
invariant-loop-finding l = l.bytes.items ≡ finding_lines l.book (take l.finding-index l.found)
