use Rattle.std.proofs.Common.{◌≡◌, length, map}
use Rattle.std.specs.List.{list_any}
use Rattle.versification.specs.Lines.{is_equals}
use Rattle.versification.proofs.line.is_any_equals.Given as goal

abbrev pub invariant-words : goal.invariant-words
invariant-words l = list_any is_equals (map (λ w. w.now) l.left) ≡ list_any is_equals (map (λ w. w.now) l.fn.words)

abbrev pub decreases-words : goal.decreases-words
decreases-words l = length l.left
