use Rattle.std.proofs.Common.{◌≡◌, ◌++◌, map}
use Rattle.op_core.specs.Lists.{books_of}
use Rattle.versification.specs.Views.{verses_in}
use Rattle.project_page.specs.Parts.{book_view, progress_of}
use Rattle.project_page.proofs.gather.progress_of.Given as goal

-- the books so far, and those that are left
abbrev pub invariant-loop-book : goal.invariant-loop-book
invariant-loop-book l =
    let v = verses_in l.versification in
    map book_view l.books.items ++ map (progress_of v l.set) l.book-iterator ≡ map (progress_of v l.set) (books_of l.set)
