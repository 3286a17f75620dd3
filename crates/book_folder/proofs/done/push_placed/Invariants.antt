use Rattle.std.proofs.Common.{◌≡◌, ◌++◌, length, map}
use Rattle.std.specs.List.{filter_map}
use Rattle.book_folder.specs.Done as done
use Rattle.book_folder.specs.Plans.{step_view}
use Rattle.book_folder.proofs.done.push_placed.Given as goal

abbrev pub invariant-steps : goal.invariant-steps
invariant-steps l =
    map done.line_view l.lines.items ++ filter_map (done.step_line l.books.books.now) (map step_view l.left)
    ≡ map done.line_view l.fn.lines.items ++ filter_map (done.step_line l.books.books.now) (map step_view l.steps)

abbrev pub decreases-steps : goal.decreases-steps
decreases-steps l = length l.left
