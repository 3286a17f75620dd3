use Rattle.std.proofs.Common.{◌≡◌, ◌+◌, ◌≤◌, ◌++◌, List, ℕ, take}
use Rattle.line_column.specs.Places.{end_of}
use Rattle.line_column.proofs.walk.after.Given as goal

-- where the bytes end that were passed; each of them adds at most one to a line or a column
abbrev pub invariant-loop-byte : goal.invariant-loop-byte
invariant-loop-byte l =
    (l.here.line ≤ l.fn.place.line + l.byte-index) × (l.here.column ≤ l.fn.place.column + l.byte-index) ×
    ((front : List ℕ) → l.fn.place ≡ end_of front → l.here ≡ end_of (front ++ take l.byte-index l.part))
