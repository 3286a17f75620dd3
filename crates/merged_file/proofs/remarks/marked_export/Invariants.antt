use Rattle.std.proofs.Common.{◌≡◌, ◌++◌}
use Rattle.std.specs.List.{flat_map}
use Rattle.merged_file.specs.Remarks as remarks
use Rattle.merged_file.proofs.remarks.marked_export.Given as goal

-- what was made, and what the keys that are left have, is the whole export
abbrev pub invariant-loop-key : goal.invariant-loop-key
invariant-loop-key l =
    (l.cursor ≡ l.replica.held)
    × (l.made.items ++ flat_map (remarks.marked_at l.replica.held l.book) l.key-iterator
    ≡ remarks.marked_export l.replica.held l.book)
