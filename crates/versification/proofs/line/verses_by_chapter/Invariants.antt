use Rattle.std.proofs.Common.{◌≡◌, ◌++◌, ◌+◌, length, map}
use Rattle.std.specs.Option.{option_map}
use Rattle.versification.specs.Lines.{verses_from}
use Rattle.versification.proofs.line.verses_by_chapter.Given as goal

-- the verses so far, and those of the words that are left
abbrev pub invariant-words : goal.invariant-words
invariant-words l =
    option_map (λ later. l.verses.items ++ later) (verses_from (length l.verses.items + 1) (map (λ w. w.now) l.left))
    ≡ verses_from 1 (map (λ w. w.now) l.fn.words)

abbrev pub decreases-words : goal.decreases-words
decreases-words l = length l.left
