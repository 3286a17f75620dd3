-- What is reported of the text of a book by the records of a style sheet (this project's own rule).
use Rattle.std.specs.Prelude.{ℕ, List, []}
use Rattle.sty_sheet.specs.Records.{Record}
use Rattle.segment_check.specs.Findings.{findings}
use Rattle.concordance.specs.Hits.{hits_of}
use Rattle.book_reports.specs.Forms.{places_of, places_in_file, findings_in, hits_in}
use Rattle.book_reports.specs.declared.form.Form.{Form}

-- the findings in the text of a book, by a form
abbrev pub checked : Form → List Record → List ℕ → List ℕ → List ℕ
checked form sheet book text =
    findings_in (places_of form) form.set_off [] book text (findings sheet text)

-- the hits of a needle in the text of a book, by a form
abbrev pub searched : Form → List Record → List ℕ → List ℕ → List ℕ → List ℕ
searched form sheet needle book text =
    hits_in (places_of form) form.set_off [] book text (hits_of sheet text needle)

-- the findings in the text of a book that a file of some name has
abbrev pub checked_file : Form → List Record → List ℕ → List ℕ → List ℕ → List ℕ
checked_file form sheet file book text =
    findings_in (places_in_file form) form.set_off file book text (findings sheet text)

-- the hits of a needle in the text of a book that a file of some name has
abbrev pub searched_file : Form → List Record → List ℕ → List ℕ → List ℕ → List ℕ → List ℕ
searched_file form sheet needle file book text =
    hits_in (places_in_file form) form.set_off file book text (hits_of sheet text needle)
