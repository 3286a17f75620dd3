use Rattle.std.proofs.Common.{◌≡◌, take}
use Rattle.book_reports.specs.Lines.{word_lines}
use Rattle.book_reports.proofs.lines.word_lines.Given as goal

abbrev pub invariant-loop-word : goal.invariant-loop-word
invariant-loop-word l = l.bytes.items ≡ word_lines (take l.word-index l.words)
