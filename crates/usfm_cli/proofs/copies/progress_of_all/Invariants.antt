use Rattle.std.proofs.Common.{◌≡◌, ◌++◌}
use Rattle.std.specs.List.{flat_map}
use Rattle.op_core.specs.Lists.{books_of}
use Rattle.versification.specs.Views.{verses_in}
use Rattle.project_status.specs.Progress.{book_progress}
use Rattle.usfm_cli.proofs.copies.progress_of_all.Given as goal

-- the lines so far, and those of the books that are left
abbrev pub invariant-loop-book : goal.invariant-loop-book
invariant-loop-book l =
    let v = verses_in l.versification in
    l.text.items ++ flat_map (book_progress v l.set) l.book-iterator ≡ flat_map (book_progress v l.set) (books_of l.set)
