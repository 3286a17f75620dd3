use Rattle.std.proofs.Common.{◌≡◌, ◌++◌, take}
use Rattle.std.specs.List.{flat_map}
use Rattle.project_page.specs.Pages.{chapter_cell}
use Rattle.project_page.proofs.progress.push_chapters.Given as goal

-- the chapters so far
abbrev pub invariant-loop-chapter : goal.invariant-loop-chapter
invariant-loop-chapter l =
    l.page.items ≡ l.fn.page.items ++ flat_map chapter_cell (take l.chapter-index l.chapters)
