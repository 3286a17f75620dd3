use Rattle.std.proofs.Common.{◌≡◌, ◌-◌, length, drop}
use Rattle.word_diff.specs.Table.{rows, table_of}
use Rattle.word_diff.specs.Words.{texts}
use Rattle.word_diff.proofs.table.table.Given as goal

abbrev pub invariant-loop-k : goal.invariant-loop-k
invariant-loop-k l = rows l.rows.items ≡ table_of (drop (length (texts l.old) - l.k) (texts l.old)) (texts l.new)
