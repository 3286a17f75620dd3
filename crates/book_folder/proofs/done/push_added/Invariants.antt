use Rattle.std.proofs.Common.{◌≡◌, ◌++◌, length, map}
use Rattle.book_folder.specs.Coming.{added_view}
use Rattle.book_folder.specs.Done as done
use Rattle.book_folder.proofs.done.push_added.Given as goal

abbrev pub invariant-files : goal.invariant-files
invariant-files l =
    map done.line_view l.lines.items ++ map done.added_line (map added_view l.left)
    ≡ map done.line_view l.fn.lines.items ++ map done.added_line (map added_view l.files)

abbrev pub decreases-files : goal.decreases-files
decreases-files l = length l.left
