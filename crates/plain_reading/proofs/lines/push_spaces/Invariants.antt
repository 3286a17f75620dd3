use Rattle.std.proofs.Common.{◌≡◌, ◌++◌, string_bytes}
use Rattle.plain_reading.specs.Lines.{spaces}
use Rattle.plain_reading.proofs.lines.push_spaces.Given as goal

-- the text so far, and the spaces that are left
abbrev pub invariant-loop-left : goal.invariant-loop-left
invariant-loop-left l = string_bytes l.text ++ spaces l.left ≡ string_bytes l.fn.text ++ spaces l.fn.count

abbrev pub decreases-loop-left : goal.decreases-loop-left
decreases-loop-left l = l.left
