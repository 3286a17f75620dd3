use Rattle.std.proofs.Common.{◌≡◌, ◌++◌, length}
use Rattle.book_folder.specs.Exports.{filed, unfiled}
use Rattle.book_folder.proofs.export.part_by_head.Given as goal

abbrev pub invariant-books : goal.invariant-books
invariant-books l =
    (l.filed.items ++ filed l.replica.held l.left ≡ filed l.replica.held l.books)
    × (l.headless.items ++ unfiled l.replica.held l.left ≡ unfiled l.replica.held l.books)

abbrev pub decreases-books : goal.decreases-books
decreases-books l = length l.left
