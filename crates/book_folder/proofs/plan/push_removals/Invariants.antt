use Rattle.std.proofs.Common.{◌≡◌, ◌++◌, length, map}
use Rattle.book_folder.specs.Plans.{RemoveNew, step_view}
use Rattle.book_folder.proofs.plan.push_removals.Given as goal

abbrev pub invariant-books : goal.invariant-books
invariant-books l =
    map step_view l.steps.items ++ map RemoveNew l.left ≡ map step_view l.fn.steps.items ++ map RemoveNew l.books

abbrev pub decreases-books : goal.decreases-books
decreases-books l = length l.left
