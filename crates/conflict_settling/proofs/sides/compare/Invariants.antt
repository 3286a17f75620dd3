use Rattle.std.proofs.Common.{◌≡◌, ℕ, length, map, Some}
use Rattle.std.specs.List.{slice_get}
use Rattle.conflict_settling.specs.Entries.{EntryView, IsEntryAt, views}
use Rattle.conflict_settling.proofs.sides.compare.Given as goal

-- the entries so far are those of the operations so far
abbrev pub invariant-loop-at : goal.invariant-loop-at
invariant-loop-at l = record {
  count : length (views l.entries.items) ≡ l.at;
  each : (k : ℕ) (e : EntryView) → slice_get (views l.entries.items) k ≡ Some e → IsEntryAt (map (λ op. op.now) l.ops) k e;
}
