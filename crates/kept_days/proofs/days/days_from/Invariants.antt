use Rattle.std.proofs.Common.{◌≡◌, length}
use Rattle.kept_days.specs.Days.{from_day, texts}
use Rattle.kept_days.proofs.days.days_from.Given as goal

abbrev pub invariant-loop-left : goal.invariant-loop-left
invariant-loop-left l = from_day l.asked (texts l.days) ≡ from_day l.asked (texts l.left)

abbrev pub decreases-loop-left : goal.decreases-loop-left
decreases-loop-left l = length l.left
