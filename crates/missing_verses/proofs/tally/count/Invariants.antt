use Rattle.std.proofs.Common.{◌≡◌, ◌<◌, ◌≤◌, ℕ, length, get_or}
use Rattle.missing_verses.specs.Loops.Tallies.{none_counted, counted}
use Rattle.missing_verses.proofs.tally.count.Given as goal

-- the tallies before the number have one more, and the others are as they were
abbrev pub invariant-loop-number : goal.invariant-loop-number
invariant-loop-number l =
    (length l.tallies.items ≡ length l.fn.tallies.items)
    × ((n : ℕ) → n < l.number → n < length l.fn.tallies.items
    → get_or l.tallies.items n none_counted ≡ counted n l.one (get_or l.fn.tallies.items n none_counted))
    × ((n : ℕ) → l.number ≤ n → get_or l.tallies.items n none_counted ≡ get_or l.fn.tallies.items n none_counted)
