use Rattle.std.proofs.Common.{◌≡◌, ◌++◌}
use Rattle.std.specs.List.{flat_map}
use Rattle.project_status.specs.Numbers.{names_in, shown_names}
use Rattle.project_status.proofs.makers.shown_names.Given as goal

-- the names so far, and those of the books that are left
abbrev pub invariant-loop-book : goal.invariant-loop-book
invariant-loop-book l = l.names.items ++ flat_map (names_in l.set) l.book-iterator ≡ shown_names l.set
