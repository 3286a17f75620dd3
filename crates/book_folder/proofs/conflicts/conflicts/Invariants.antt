use Rattle.std.proofs.Common.{◌≡◌, ◌++◌}
use Rattle.std.specs.List.{flat_map}
use Rattle.book_folder.specs.Begun as begun
use Rattle.book_folder.proofs.conflicts.conflicts.Given as goal

abbrev pub invariant-loop-book : goal.invariant-loop-book
invariant-loop-book l =
    l.found.items ++ flat_map (begun.conflicts_in l.replica.held) l.book-iterator
    ≡ begun.conflicts l.replica.held
