use Rattle.std.proofs.Common.{◌≡◌, ◌++◌, ◌∷◌, [], filter, codes}
use Rattle.std.specs.List.{flat_map}
use Rattle.usfm_ref.specs.References.{ref_text}
use Rattle.usfm_ref.specs.Segments.{segment}
use Rattle.op_core.specs.Shown.{shown}
use Rattle.project_status.specs.Lines.{conflict_lines}
use Rattle.project_status.specs.Numbers.{differ}
use Rattle.project_status.proofs.status.push_conflicts_in.Given as goal

-- the lines so far, and those of the keys that are left
abbrev pub invariant-loop-key : goal.invariant-loop-key
invariant-loop-key l =
    (l.cursor ≡ l.set)
    × (l.text.items ++ flat_map (λ key. codes "conflict " ++ (ref_text l.book key ++ 10 ∷ []))
    (filter (λ key. differ (shown l.set (segment l.book key))) l.key-iterator)
    ≡ l.fn.text.items ++ conflict_lines l.set l.book)
