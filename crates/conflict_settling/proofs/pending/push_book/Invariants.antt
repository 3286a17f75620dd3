use Rattle.std.proofs.Common.{◌≡◌, ◌++◌}
use Rattle.std.specs.List.{flat_map}
use Rattle.usfm_ref.specs.Segments.{segment}
use Rattle.conflict_settling.specs.Pending.{open_at, open_in}
use Rattle.conflict_settling.proofs.pending.push_book.Given as goal

-- the segments so far, and those of the keys that are left
abbrev pub invariant-loop-key : goal.invariant-loop-key
invariant-loop-key l =
    (l.cursor ≡ l.replica.held)
    × (l.list.items ++ flat_map (λ key. open_at l.replica.held l.wanted l.passed (segment l.book key)) l.key-iterator
    ≡ l.fn.list.items ++ open_in l.replica.held l.wanted l.passed l.book)
