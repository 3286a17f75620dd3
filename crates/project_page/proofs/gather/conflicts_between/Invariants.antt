use Rattle.std.proofs.Common.{◌≡◌, ℕ, length, map, Some}
use Rattle.std.specs.List.{slice_get}
use Rattle.project_page.specs.Parts.{ConflictView, IsConflictAt, conflict_view}
use Rattle.project_page.proofs.gather.conflicts_between.Given as goal

-- the texts are of the same replica, and the conflicts so far those of the segments so far
abbrev pub invariant-loop-segment : goal.invariant-loop-segment
invariant-loop-segment l =
    record {
      held : l.texts.held ≡ l.fn.texts.held;
      count : length (map conflict_view l.conflicts.items) ≡ l.segment-index;
      each : (k : ℕ) (c : ConflictView) → slice_get (map conflict_view l.conflicts.items) k ≡ Some c
          → IsConflictAt l.fn.texts.held l.segments k c;
    }
