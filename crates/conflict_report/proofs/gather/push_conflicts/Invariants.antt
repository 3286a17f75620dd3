use Rattle.std.proofs.Common.{◌≡◌, ◌++◌}
use Rattle.std.specs.List.{flat_map}
use Rattle.op_core.specs.Lists.{books_of}
use Rattle.conflict_report.specs.Loops.Parts.{bytes_of}
use Rattle.conflict_report.specs.Reports.{conflicts_in}
use Rattle.conflict_report.proofs.gather.push_conflicts.Given as goal

-- the parts so far, and what is reported of the books that are left
abbrev pub invariant-loop-book : goal.invariant-loop-book
invariant-loop-book l =
    bytes_of l.parts.items ++ flat_map (conflicts_in l.replica.held) l.book-iterator
    ≡ bytes_of l.fn.parts.items ++ flat_map (conflicts_in l.replica.held) (books_of l.replica.held)
