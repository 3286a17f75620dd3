use Rattle.std.proofs.Common.{◌≡◌}
use Rattle.std.specs.List.{list_any}
use Rattle.versification.specs.Views.{verses_in}
use Rattle.missing_verses.specs.Numbers.{below, is_extra}
use Rattle.missing_verses.proofs.chapter.Chapter.lacks_any.Given as goal

abbrev pub invariant-loop-number : goal.invariant-loop-number
invariant-loop-number l =
    l.found ≡ list_any (is_extra (verses_in l.self.versification.now) l.self.book l.self.number l.one) (below l.number)
