use Rattle.std.proofs.Common.{◌≡◌, ◌++◌}
use Rattle.std.specs.List.{flat_map}
use Rattle.op_core.specs.Lists.{books_of}
use Rattle.project_status.specs.Verses.{verses_of}
use Rattle.project_status.proofs.status.verses_written.Given as goal

-- the verses so far, and those of the books that are left
abbrev pub invariant-loop-book : goal.invariant-loop-book
invariant-loop-book l = l.verses.items ++ flat_map (verses_of l.set) l.book-iterator ≡ flat_map (verses_of l.set) (books_of l.set)
