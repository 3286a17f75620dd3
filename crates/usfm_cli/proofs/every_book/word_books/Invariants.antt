use Rattle.std.proofs.Common.{◌≡◌, ◌++◌}
use Rattle.std.specs.List.{flat_map}
use Rattle.sty_sheet.specs.Views.{records_of}
use Rattle.op_core.specs.Export.{export}
use Rattle.book_reports.specs.BookWords.{in_book}
use Rattle.usfm_cli.specs.EveryBook.{of_each_book}
use Rattle.usfm_cli.proofs.every_book.word_books.Given as goal

-- the words so far, and those of the books that are left
abbrev pub invariant-loop-book : goal.invariant-loop-book
invariant-loop-book l =
    l.words.items ++ flat_map (λ book. in_book (records_of l.sheet) book (export l.replica.held book)) l.book-iterator
    ≡ of_each_book (in_book (records_of l.sheet)) l.replica.held
