use Rattle.std.proofs.Common.{◌≡◌, ◌++◌, ◌+◌, ℕ, List, length, map, Bor}
use Rattle.op_core.specs.Ops.{Operation}
use Rattle.conflict_settling.specs.Numbers.{number_under}
use Rattle.conflict_settling.specs.Questions.{number_from}
use Rattle.conflict_settling.proofs.numbers.numbers_of.Given as goal

abbrev pub invariant-ops : goal.invariant-ops
invariant-ops l =
    (after : List (Bor Operation)) × (l.left ++ after ≡ l.ops)
    × ((text : List ℕ) → number_under l.by_text text
    ≡ number_from (length l.left + 1) (map (λ op. op.now) after) text)

abbrev pub decreases-ops : goal.decreases-ops
decreases-ops l = length l.left
