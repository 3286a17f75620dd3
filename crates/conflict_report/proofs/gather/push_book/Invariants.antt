use Rattle.std.proofs.Common.{◌≡◌, ◌++◌}
use Rattle.std.specs.List.{flat_map}
use Rattle.usfm_ref.specs.Segments.{segment}
use Rattle.conflict_report.specs.Loops.Parts.{bytes_of}
use Rattle.conflict_report.specs.Reports.{conflict_at, conflicts_in}
use Rattle.conflict_report.proofs.gather.push_book.Given as goal

-- the parts so far, and what is reported of the keys that are left
abbrev pub invariant-loop-key : goal.invariant-loop-key
invariant-loop-key l =
    (l.cursor ≡ l.replica.held)
    × (bytes_of l.parts.items ++ flat_map (λ key. conflict_at l.replica.held (segment l.book key)) l.key-iterator
    ≡ bytes_of l.fn.parts.items ++ conflicts_in l.replica.held l.book)
