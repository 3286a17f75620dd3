use Rattle.std.proofs.Common.{◌≡◌, ◌++◌, length}
use Rattle.book_reading.specs.Views.{runs_view}
use Rattle.plain_reading.specs.Loops.{gaps_left}
use Rattle.plain_reading.specs.Parts.{marked}
use Rattle.plain_reading.proofs.marking.marked.Given as goal

-- the runs so far, and those that are left with their words
abbrev pub invariant-runs : goal.invariant-runs
invariant-runs l =
    runs_view l.list.items ++ marked (gaps_left l.left) (runs_view l.rest) ≡ marked l.fn.gaps (runs_view l.fn.runs)

abbrev pub decreases-runs : goal.decreases-runs
decreases-runs l = length l.rest
