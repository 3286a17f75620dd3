use Rattle.std.proofs.Common.{◌≡◌, false, map}
use Rattle.std.specs.Prelude.{◌||◌}
use Rattle.concordance.specs.Loops.Groups.{all_spellings, has_bare, is_spelled}
use Rattle.concordance.specs.Loops.KeyedViews.{hits_left, spelled}
use Rattle.concordance.specs.Words.{Spelling}
use Rattle.concordance.proofs.listing.keys_by_run.Given as goal

abbrev pub invariant-loop-run : goal.invariant-loop-run
invariant-loop-run l =
    (goal.iterator-loop-run).can_next l.run-iterator
    × (goal.iterator-loop-run).is_finite l.run-iterator
    × ((s : Spelling) → (is_spelled s (all_spellings l.groups.entries) || is_spelled s (map spelled (hits_left l.run-iterator)))
    ≡ is_spelled s (map spelled (hits_left l.initial.runs)))
    × (has_bare l.groups.entries ≡ false)
