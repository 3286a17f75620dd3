-- What is reported of every book of a set of operations by the records of a style sheet (this
-- project's own rule).
use Rattle.std.specs.Prelude.{ℕ, List}
use Rattle.std.specs.List.{flat_map}
use Rattle.sty_sheet.specs.Records.{Record}
use Rattle.op_core.specs.Ops.{Operation}
use Rattle.op_core.specs.Export.{export}
use Rattle.op_core.specs.Lists.{books_of}
use Rattle.book_reports.specs.declared.form.Form.{Form}
use Rattle.book_reports.specs.Reports.{checked, searched}
use Rattle.book_reports.specs.BookWords.{in_book, by_form, word_lines}

-- what is made of the export of each book with an operation, one after another, in the order of the
-- books
abbrev pub of_each_book : {A : Type 0} → (List ℕ → List ℕ → List A) → List Operation → List A
of_each_book made held = flat_map (λ book. made book (export held book)) (books_of held)

-- the findings in all books
abbrev pub all_checked : Form → List Record → List Operation → List ℕ
all_checked form sheet held = of_each_book (checked form sheet) held

-- the hits of a needle in all books
abbrev pub all_searched : Form → List Record → List ℕ → List Operation → List ℕ
all_searched form sheet needle held = of_each_book (searched form sheet needle) held

-- the words of all books, a line for each word of each book: by the forms, those of one form in the
-- order of the books
abbrev pub all_listed : List Record → List Operation → List ℕ
all_listed sheet held = word_lines (by_form (of_each_book (in_book sheet) held))
