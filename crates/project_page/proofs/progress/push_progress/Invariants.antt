use Rattle.std.proofs.Common.{◌≡◌, ◌++◌, take, map}
use Rattle.std.specs.List.{flat_map}
use Rattle.project_page.specs.Pages.{book_row}
use Rattle.project_page.specs.Parts.{book_view}
use Rattle.project_page.specs.Said.{said}
use Rattle.project_page.proofs.progress.push_progress.Given as goal

-- the books so far
abbrev pub invariant-loop-book : goal.invariant-loop-book
invariant-loop-book l =
    l.page.items ≡ l.initial.page.items ++ flat_map (book_row said) (map book_view (take l.book-index l.books))
