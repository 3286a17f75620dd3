use Rattle.std.proofs.Common.{◌≡◌, ◌++◌}
use Rattle.op_core.specs.Lists.{books_of}
use Rattle.project_status.proofs.status.books_of.Given as goal

-- the books so far, and those that are left
abbrev pub invariant-loop-book : goal.invariant-loop-book
invariant-loop-book l = l.books.items ++ l.book-iterator ≡ books_of l.set
