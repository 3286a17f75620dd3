use Rattle.std.proofs.Common.{◌≡◌, ◌++◌}
use Rattle.std.specs.List.{flat_map}
use Rattle.usfm_ref.specs.Segments.{segment}
use Rattle.op_core.specs.Shown.{pick}
use Rattle.project_status.specs.Verses.{verse_picked, verses_of}
use Rattle.project_status.proofs.verses.push_verses.Given as goal

-- the verses so far, and those at the keys that are left
abbrev pub invariant-loop-key : goal.invariant-loop-key
invariant-loop-key l =
    (l.cursor ≡ l.set)
    × (l.found.items ++ flat_map (λ key. verse_picked key (pick l.set (segment l.book key))) l.key-iterator
    ≡ l.fn.found.items ++ verses_of l.set l.book)
