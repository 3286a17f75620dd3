use Rattle.std.proofs.Common.{◌≡◌, ◌++◌, map, filter}
use Rattle.usfm_ref.specs.Segments.{segment}
use Rattle.book_folder.specs.Begun as begun
use Rattle.book_folder.proofs.conflicts.push_conflicts.Given as goal

abbrev pub invariant-loop-key : goal.invariant-loop-key
invariant-loop-key l =
    (l.cursor ≡ l.replica.held)
    × (l.found.items ++ map (λ key. (l.book, key))
    (filter (λ key. begun.is_in_conflict l.replica.held (segment l.book key)) l.key-iterator)
    ≡ l.fn.found.items ++ begun.conflicts_in l.replica.held l.book)
