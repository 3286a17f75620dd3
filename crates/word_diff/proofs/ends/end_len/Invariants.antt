use Rattle.std.proofs.Common.{◌≡◌, ◌+◌, ◌-◌, ◌≤◌, length, drop, reverse}
use Rattle.word_diff.specs.Common.{front_len}
use Rattle.word_diff.specs.Words.{texts}
use Rattle.word_diff.proofs.ends.end_len.Given as goal

abbrev pub invariant-loop-len : goal.invariant-loop-len
invariant-loop-len l = (l.len ≤ length l.old) × (l.len ≤ length l.new)
    × (l.len + front_len (drop l.len (reverse (texts l.old))) (drop l.len (reverse (texts l.new)))
    ≡ front_len (reverse (texts l.old)) (reverse (texts l.new)))

abbrev pub decreases-loop-len : goal.decreases-loop-len
decreases-loop-len l = length l.old - l.len
