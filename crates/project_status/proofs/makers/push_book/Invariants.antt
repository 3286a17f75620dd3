use Rattle.std.proofs.Common.{◌≡◌, ◌++◌}
use Rattle.std.specs.List.{flat_map}
use Rattle.usfm_ref.specs.Segments.{segment}
use Rattle.project_status.specs.Numbers.{names_at, names_in}
use Rattle.project_status.proofs.makers.push_book.Given as goal

-- the names so far, and those of the keys that are left
abbrev pub invariant-loop-key : goal.invariant-loop-key
invariant-loop-key l =
    (l.cursor ≡ l.set)
    × (l.names.items ++ flat_map (λ key. names_at l.set (segment l.book key)) l.key-iterator ≡ l.fn.names.items ++ names_in l.set l.book)
