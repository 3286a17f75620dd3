use Rattle.std.proofs.Common.{◌≡◌, ◌++◌, filter}
use Rattle.conflict_settling.specs.Before.{is_filled}
use Rattle.conflict_settling.specs.Filled.{filled_keys}
use Rattle.conflict_settling.proofs.filled.filled_keys.Given as goal

-- the keys so far, and those that are left
abbrev pub invariant-loop-key : goal.invariant-loop-key
invariant-loop-key l =
    (l.cursor ≡ l.replica.held)
    × (l.filled.items ++ filter (is_filled l.replica.held l.fn.book) l.key-iterator ≡ filled_keys l.replica.held l.fn.book)
