use Rattle.std.proofs.Common.{◌≡◌, ◌++◌}
use Rattle.std.specs.List.{flat_map}
use Rattle.sty_sheet.specs.Views.{records_of}
use Rattle.op_core.specs.Export.{export}
use Rattle.book_reports.specs.Reports.{searched}
use Rattle.usfm_cli.specs.EveryBook.{all_searched}
use Rattle.usfm_cli.proofs.every_book.found_in_books.Given as goal

-- what is found so far, and in the books that are left
abbrev pub invariant-loop-book : goal.invariant-loop-book
invariant-loop-book l =
    l.bytes.items
    ++ flat_map (λ book. searched l.form (records_of l.sheet) l.needle book (export l.replica.held book)) l.book-iterator
    ≡ all_searched l.form (records_of l.sheet) l.needle l.replica.held
