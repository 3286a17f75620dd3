use Rattle.std.proofs.Common.{◌+◌, ◌-◌}
use Rattle.word_diff.specs.Parts.{spans}
use Rattle.word_diff.specs.Words.{texts}
use Rattle.word_diff.proofs.Walks.{Walked}
use Rattle.word_diff.proofs.steps.push_longest.Given as goal

abbrev pub invariant-loop-i : goal.invariant-loop-i
invariant-loop-i l = Walked (spans l.fn.steps.items) (spans l.steps.items) (texts l.old) (texts l.new) l.i l.j

abbrev pub decreases-loop-i : goal.decreases-loop-i
decreases-loop-i l = (l.old_len - l.i) + (l.new_len - l.j)
