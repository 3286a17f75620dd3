use Rattle.std.proofs.Common.{◌≡◌, ◌+◌, true, drop}
use Rattle.sty_sheet.specs.Lines.{comment_at}
use Rattle.sty_sheet.proofs.line.comment_at.Given as goal

abbrev pub invariant-loop-i : goal.invariant-loop-i
invariant-loop-i l = l.i + comment_at l.may (drop l.i l.bytes) ≡ comment_at true l.bytes
