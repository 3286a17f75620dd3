use Rattle.std.proofs.Common.{◌≡◌, length}
use Rattle.op_core.specs.Loops.Index.{keys_left}
use Rattle.op_core.proofs.index.keys.next_key.Given as goal

abbrev pub invariant-chapters : goal.invariant-chapters
invariant-chapters l = keys_left l.book l.initial.registers l.initial.chapters ≡ keys_left l.book l.registers l.chapters

abbrev pub decreases-chapters : goal.decreases-chapters
decreases-chapters l = length l.chapters
