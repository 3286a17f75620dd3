use Rattle.std.proofs.Common.{◌≡◌, ◌++◌}
use Rattle.std.specs.List.{flat_map}
use Rattle.missing_verses.specs.Numbers.{below}
use Rattle.missing_verses.specs.Lines.{first_of, run_line}
use Rattle.missing_verses.proofs.lines.push_runs.Given as goal

abbrev pub invariant-loop-number : goal.invariant-loop-number
invariant-loop-number l =
    (l.first ≡ first_of l.flags l.number)
    × (l.bytes.items ≡ l.fn.bytes.items ++ flat_map (run_line l.word l.chapter.book l.chapter.number l.flags) (below l.number))
