use Rattle.std.proofs.Common.{◌≡◌, ◌++◌}
use Rattle.std.specs.List.{flat_map}
use Rattle.conflict_settling.specs.Pending.{open_in, open_conflicts}
use Rattle.conflict_settling.proofs.pending.open_conflicts.Given as goal

-- the segments so far, and those of the books that are left
abbrev pub invariant-loop-book : goal.invariant-loop-book
invariant-loop-book l =
    l.list.items ++ flat_map (open_in l.replica.held l.wanted l.fn.passed) l.book-iterator
    ≡ open_conflicts l.replica.held l.wanted l.fn.passed
