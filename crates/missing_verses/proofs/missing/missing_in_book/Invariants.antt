use Rattle.std.proofs.Common.{◌≡◌}
use Rattle.std.specs.List.{flat_map}
use Rattle.versification.specs.Views.{verses_in}
use Rattle.missing_verses.specs.Numbers.{below}
use Rattle.missing_verses.specs.Lines.{chapter_lines}
use Rattle.missing_verses.proofs.missing.missing_in_book.Given as goal

abbrev pub invariant-loop-chapter : goal.invariant-loop-chapter
invariant-loop-chapter l = l.bytes.items ≡ flat_map (chapter_lines (verses_in l.versification) l.book l.text) (below l.chapter)
