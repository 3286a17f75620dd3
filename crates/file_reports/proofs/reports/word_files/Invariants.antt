use Rattle.std.proofs.Common.{◌≡◌, take}
use Rattle.std.specs.List.{flat_map}
use Rattle.sty_sheet.specs.Views.{records_of}
use Rattle.book_reports.specs.BookWords.{in_book}
use Rattle.file_reports.proofs.reports.word_files.Given as goal

abbrev pub invariant-loop-file : goal.invariant-loop-file
invariant-loop-file l =
    l.words.items ≡ flat_map (λ file. in_book (records_of l.sheet) file.book file.text.now) (take l.file-index l.files)
