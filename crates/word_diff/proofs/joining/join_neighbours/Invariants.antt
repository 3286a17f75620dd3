use Rattle.std.proofs.Common.{◌-◌, ◌≤◌, length, drop}
use denote.Text.{Utf8}
use denote.Shadow.{shadow}
use Rattle.word_diff.specs.Parts.{spans}
use Rattle.word_diff.proofs.JoinLemmas.{Joining}
use Rattle.word_diff.proofs.joining.join_neighbours.Given as goal

abbrev pub invariant-loop-at : goal.invariant-loop-at
invariant-loop-at l = shadow (Utf8 l.old_rest) × shadow (Utf8 l.new_rest) × (l.at ≤ length l.steps)
    × Joining (spans l.parts.items) (spans (drop l.at l.steps)) (spans l.steps) l.old l.new l.old_rest l.new_rest

abbrev pub decreases-loop-at : goal.decreases-loop-at
decreases-loop-at l = length l.steps - l.at
