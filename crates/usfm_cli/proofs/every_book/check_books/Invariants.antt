use Rattle.std.proofs.Common.{◌≡◌, ◌++◌}
use Rattle.std.specs.List.{flat_map}
use Rattle.sty_sheet.specs.Views.{records_of}
use Rattle.op_core.specs.Export.{export}
use Rattle.book_reports.specs.Reports.{checked}
use Rattle.usfm_cli.specs.EveryBook.{all_checked}
use Rattle.usfm_cli.proofs.every_book.check_books.Given as goal

-- what is reported so far, and of the books that are left
abbrev pub invariant-loop-book : goal.invariant-loop-book
invariant-loop-book l =
    l.bytes.items
    ++ flat_map (λ book. checked l.form (records_of l.sheet) book (export l.replica.held book)) l.book-iterator
    ≡ all_checked l.form (records_of l.sheet) l.replica.held
