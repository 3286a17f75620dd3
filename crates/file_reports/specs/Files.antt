-- What is reported of books' files as they stand (this project's own rule): of each what is reported
-- of the text of its book, one file after another.
use Rattle.std.specs.Prelude.{ℕ, List}
use Rattle.std.specs.List.{flat_map}
use Rattle.sty_sheet.specs.Records.{Record}
use Rattle.book_reports.specs.Reports.{checked_file, searched_file}
use Rattle.book_reports.specs.BookWords.{in_book, by_form, word_lines}
use Rattle.book_reports.specs.declared.form.Form.{Form}
use Rattle.versification.specs.Versifications.{Verses}
use Rattle.missing_verses.specs.Lines.{book_lines}
use Rattle.file_reports.specs.declared.file.BookFile.{BookFile}

-- the findings in a file
abbrev pub checked_one : Form → List Record → BookFile → List ℕ
checked_one form sheet file = checked_file form sheet file.name.now file.book file.text.now

-- the findings in each file
abbrev pub checked : Form → List Record → List BookFile → List ℕ
checked form sheet files = flat_map (checked_one form sheet) files

-- the hits of a needle in a file
abbrev pub searched_one : Form → List Record → List ℕ → BookFile → List ℕ
searched_one form sheet needle file =
    searched_file form sheet needle file.name.now file.book file.text.now

-- the hits of a needle in each file
abbrev pub searched : Form → List Record → List ℕ → List BookFile → List ℕ
searched form sheet needle files = flat_map (searched_one form sheet needle) files

-- the words of all files, a line for each word of each file: by the forms, those of one form in the
-- order of the files
abbrev pub listed : List Record → List BookFile → List ℕ
listed sheet files =
    word_lines (by_form (flat_map (λ file. in_book sheet file.book file.text.now) files))

-- what is missing of each file by a versification
abbrev pub missing : Verses → List BookFile → List ℕ
missing verses files = flat_map (λ file. book_lines verses file.book file.text.now) files
