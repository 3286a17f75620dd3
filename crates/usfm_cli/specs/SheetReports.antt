-- What commands report of a book by a style sheet (this project's own rule): its findings, the hits
-- of a needle, and its words.
use Rattle.std.specs.Prelude.{ℕ, Bool, true, false, List, [], ◌∷◌, Result, Ok, Err, if◌then◌else◌}
use Rattle.std.specs.Str.{is_utf8}
use Rattle.std.specs.Str.Lossy.{utf8_valid_len}
use Rattle.sty_sheet.specs.Records.{Record}
use Rattle.sty_sheet.specs.Memory.{takes_memory}
use Rattle.sty_sheet.specs.Sheets.{sheet_of}
use Rattle.sty_sheet.specs.declared.fault.SheetFault.{SheetFault}
use Rattle.op_core.specs.Ops.{Operation}
use Rattle.op_core.specs.Export.{has_book, export}
use Rattle.segment_check.specs.Findings.{findings}
use Rattle.concordance.specs.Hits.{hits_of}
use Rattle.concordance.specs.Words.{words_of}
use Rattle.book_reports.specs.Lines.{finding_lines, hit_lines, word_lines}
use Rattle.command_faults.specs.Faults.{of_sheet}
use Rattle.command_faults.specs.declared.fault.Fault.{Fault}
use Rattle.command_faults.specs.declared.fault.Fault.TheVariants.{NotText, NoBook, EmptyNeedle}

-- what is written by the records of a sheet, or the sheet's fault
abbrev pub by_records : Result (List Record) SheetFault →
    (List Record → Result (List ℕ) Fault) → Result (List ℕ) Fault
by_records (Ok records) next = next records
by_records (Err fault) next = Err (of_sheet fault)

-- what is written by the records of a sheet that is given as bytes, or why they are no sheet
abbrev pub by_sheet : List ℕ → (List Record → Result (List ℕ) Fault) → Result (List ℕ) Fault
by_sheet bytes next =
    if is_utf8 bytes then by_records (sheet_of bytes) next else Err (NotText (utf8_valid_len bytes))

-- what is written of the export of a book, or that the book has no operation
abbrev pub by_book_text : List Operation → List ℕ →
    (List ℕ → Result (List ℕ) Fault) → Result (List ℕ) Fault
by_book_text held book next = if has_book held book then next (export held book) else Err NoBook

-- ---- findings, hits and words

-- the findings in a book by a sheet, a line for each
abbrev pub checked : List Operation → List ℕ → List ℕ → Result (List ℕ) Fault
checked held book sheet =
    by_sheet sheet (λ records.
    by_book_text held book (λ text. Ok (finding_lines book (findings records text))))

-- what is found of a needle, unless it is empty
abbrev pub unless_empty : List ℕ → Result (List ℕ) Fault → Result (List ℕ) Fault
unless_empty [] found = Err EmptyNeedle
unless_empty (b ∷ needle) found = found

-- the hits of a needle in a book by a sheet, a line for each
abbrev pub searched : List Operation → List ℕ → List ℕ → List ℕ → Result (List ℕ) Fault
searched held book sheet needle =
    by_sheet sheet (λ records. by_book_text held book
    (λ text. unless_empty needle (Ok (hit_lines book (hits_of records text needle)))))

-- the words of a book by a sheet, a line for each
abbrev pub listed : List Operation → List ℕ → List ℕ → Result (List ℕ) Fault
listed held book sheet =
    by_sheet sheet
    (λ records. by_book_text held book (λ text. Ok (word_lines (words_of records text))))

-- Whether a refusal of a command that goes by this sheet is found only after memory may have been
-- taken: the book and the needle are looked at after the sheet was read. That the sheet is no text
-- takes none, and a fault of it only some (takes_memory).
abbrev pub is_after_sheet : List ℕ → Fault → Bool
is_after_sheet sheet (NotText valid) = false
is_after_sheet sheet NoBook = true
is_after_sheet sheet EmptyNeedle = true
is_after_sheet sheet fault = takes_memory sheet
