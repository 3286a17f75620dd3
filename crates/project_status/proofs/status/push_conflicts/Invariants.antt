use Rattle.std.proofs.Common.{◌≡◌, ◌++◌}
use Rattle.std.specs.List.{flat_map}
use Rattle.op_core.specs.Lists.{books_of}
use Rattle.project_status.specs.Lines.{conflict_lines}
use Rattle.project_status.proofs.status.push_conflicts.Given as goal

-- the lines so far, and those of the books that are left
abbrev pub invariant-loop-book : goal.invariant-loop-book
invariant-loop-book l =
    l.text.items ++ flat_map (conflict_lines l.set) l.book-iterator
    ≡ l.fn.text.items ++ flat_map (conflict_lines l.set) (books_of l.set)
