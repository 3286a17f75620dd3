use Rattle.std.proofs.Common.{◌≡◌, map}
use Rattle.versification.specs.Views.{verses_in}
use Rattle.missing_verses.specs.Numbers.{below, is_missing, is_doubled}
use Rattle.missing_verses.proofs.chapter.found_in.Given as goal

abbrev pub invariant-loop-number : goal.invariant-loop-number
invariant-loop-number l =
    let v = verses_in l.chapter.versification.now in
    (l.missing.items ≡ map (is_missing v l.chapter.book l.chapter.number l.fn.covers) (below l.number))
    × (l.twice.items ≡ map (is_doubled l.fn.covers) (below l.number))
