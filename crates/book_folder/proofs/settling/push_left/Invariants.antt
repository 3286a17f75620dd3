use Rattle.std.proofs.Common.{◌≡◌, ◌++◌, length, map}
use Rattle.book_folder.specs.Settling.{RemoveNew, settling_view}
use Rattle.book_folder.proofs.settling.push_left.Given as goal

abbrev pub invariant-books : goal.invariant-books
invariant-books l =
    map settling_view l.steps.items ++ map RemoveNew l.left ≡ map settling_view l.fn.steps.items ++ map RemoveNew l.books

abbrev pub decreases-books : goal.decreases-books
decreases-books l = length l.left
