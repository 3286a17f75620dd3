use Rattle.std.proofs.Common.{◌≡◌, ◌++◌, filter, map, not}
use Rattle.book_folder.specs.Files.{files_view}
use Rattle.book_folder.specs.Naming.{form_view}
use Rattle.book_folder.specs.Plans as plans
use Rattle.book_folder.specs.Refusals.{gathered}
use Rattle.book_folder.specs.Wanted.{seen_view}
use Rattle.book_folder.proofs.books.file_books.Given as goal

abbrev pub invariant-loop-book : goal.invariant-loop-book
invariant-loop-book l =
    (gathered (plans.new_file_if (seen_view l.folder.seen) l.replica.held (files_view l.folder.files.now) (form_view l.form))
    (map plans.new_file_view l.made.items) l.book-iterator
    ≡ plans.new_files (seen_view l.folder.seen) l.replica.held (files_view l.folder.files.now) (form_view l.form))
    × (l.headless.items ++ filter (λ book. not (plans.is_whole l.replica.held book)) l.book-iterator
    ≡ plans.headless l.replica.held)
