use Rattle.std.proofs.Common.{◌≡◌}
use Rattle.op_core.specs.Export.{has_book}
use Rattle.segment_history.proofs.named.has_book.Given as goal

-- what is left has an operation of the book where all has
abbrev pub invariant-loop-op : goal.invariant-loop-op
invariant-loop-op l = has_book l.op-iterator l.book ≡ has_book l.bundle l.book
