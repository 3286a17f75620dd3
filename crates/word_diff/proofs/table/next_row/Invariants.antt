use Rattle.std.proofs.Common.{◌≡◌, ◌-◌, length, drop}
use Rattle.word_diff.specs.Table.{row_of}
use Rattle.word_diff.specs.Words.{texts}
use Rattle.word_diff.proofs.table.next_row.Given as goal

abbrev pub invariant-loop-k : goal.invariant-loop-k
invariant-loop-k l = l.row.items ≡ row_of (texts l.old) (drop (length (texts l.new) - l.k) (texts l.new))
