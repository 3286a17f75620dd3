use Rattle.std.proofs.Common.{◌≡◌, length, take}
use Rattle.word_diff.specs.Joins.{all_bytes}
use Rattle.word_diff.specs.Parts.{spans}
use Rattle.word_diff.specs.Words.{joined}
use Rattle.word_diff.proofs.joining.total_len.Given as goal

abbrev pub invariant-loop-part : goal.invariant-loop-part
invariant-loop-part l = l.total ≡ length (joined (all_bytes (spans (take l.part-index l.parts))))
