use Rattle.std.proofs.Common.{◌≡◌, ◌++◌, length, map}
use Rattle.book_folder.specs.Done as done
use Rattle.book_folder.proofs.done.push_conflicts.Given as goal

abbrev pub invariant-conflicts : goal.invariant-conflicts
invariant-conflicts l =
    map done.line_view l.lines.items ++ map done.conflict_line l.left
    ≡ map done.line_view l.fn.lines.items ++ map done.conflict_line l.conflicts

abbrev pub decreases-conflicts : goal.decreases-conflicts
decreases-conflicts l = length l.left
