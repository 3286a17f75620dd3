use Rattle.std.proofs.Common.{◌≡◌, ◌++◌}
use Rattle.std.specs.List.{flat_map}
use Rattle.versification.specs.Views.{verses_in}
use Rattle.missing_verses.specs.Numbers.{below}
use Rattle.usfm_cli.specs.Missing.{named_lines}
use Rattle.usfm_cli.proofs.missing.Look.push_chapters.Given as goal

-- the lines of the chapters so far
abbrev pub invariant-loop-chapter : goal.invariant-loop-chapter
invariant-loop-chapter l =
    l.bytes.items
    ≡ l.fn.bytes.items
    ++ flat_map (named_lines (verses_in l.self.versification.now) l.self.parts.now l.book l.text) (below l.chapter)
