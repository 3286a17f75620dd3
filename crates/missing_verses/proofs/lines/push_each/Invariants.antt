use Rattle.std.proofs.Common.{◌≡◌, ◌++◌}
use Rattle.std.specs.List.{flat_map}
use Rattle.missing_verses.specs.Numbers.{below}
use Rattle.missing_verses.specs.Lines.{verse_line}
use Rattle.missing_verses.proofs.lines.push_each.Given as goal

abbrev pub invariant-loop-number : goal.invariant-loop-number
invariant-loop-number l =
    l.bytes.items ≡ l.fn.bytes.items ++ flat_map (verse_line l.word l.chapter.book l.chapter.number l.flags) (below l.number)
