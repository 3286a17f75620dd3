use Rattle.std.proofs.Common.{◌≡◌}
use Rattle.std.specs.List.{flat_map}
use Rattle.book_reading.specs.Views.{chapters_left, runs_view}
use Rattle.plain_reading.specs.Lines.{plain}
use Rattle.plain_reading.specs.Loops.{page_with}
use Rattle.plain_reading.specs.Paragraphs.{chapter_paragraphs}
use Rattle.plain_reading.proofs.page.plain.Given as goal

-- the page so far, with the chapters that are left
abbrev pub invariant-loop-chapter : goal.invariant-loop-chapter
invariant-loop-chapter l =
    page_with l.page (flat_map chapter_paragraphs (chapters_left l.chapter-iterator)) ≡ plain l.width (runs_view l.runs)
