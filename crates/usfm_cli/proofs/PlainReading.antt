-- Why nothing of a project is read as plain text.
use Rattle.std.proofs.Common.{◌≡◌, ℕ, true, List, Result, Ok, Err, ap, ◌∙◌, refl}
use Rattle.std.specs.Str.{is_utf8}
use Rattle.std.proofs.lemmas.Bool.{cond-true, cond-false}
use Rattle.sty_sheet.specs.Records.{Record}
use Rattle.sty_sheet.specs.Sheets.{sheet_of}
use Rattle.op_core.specs.Ops.{Operation}
use Rattle.conflict_settling.specs.Wanted.{book_of}
use Rattle.conflict_settling.specs.declared.wanted.Wanted.{Wanted}
use Rattle.usfm_export.specs.Books.{AnswersText}
use Rattle.usfm_export.specs.declared.fault.TextFault.{TextFault}
use Rattle.usfm_export.specs.declared.fault.TextFault.TheVariants as giving
use Rattle.usfm_cli.specs.Commands.{MayWantMemory, Gives, any_fault}
use Rattle.usfm_cli.specs.PlainReading.{read_by, read_of}
use Rattle.usfm_cli.specs.SheetReports.{by_records}
use Rattle.command_faults.specs.Faults.{of_book_text}
use Rattle.command_faults.specs.declared.fault.Fault.{Fault}

-- where each refusal may be found late, out of memory may be answered
any_late : (r : Result (List ℕ) Fault) → MayWantMemory any_fault r
any_late (Ok text) = tt
any_late (Err fault) = refl

-- a book without an operation is refused, and of one that has some out of memory may be answered
pub read_without_text : (A B : Type 0) (held : List Operation) (wanted : Wanted) (width : ℕ) (sheet : List ℕ) (records : List Record)
    (fault : TextFault) → is_utf8 sheet ≡ true → sheet_of sheet ≡ Ok records
    → AnswersText {A = A} held (book_of wanted) (Err fault)
    → Gives {A = B} any_fault (read_of held wanted width sheet) (Err (of_book_text fault))
read_without_text A B held wanted width sheet records giving.NoBook is read has =
    cond-true _ _ _ is ∙ ap (λ r. by_records r (read_by held wanted width)) read ∙ cond-false _ _ _ has
read_without_text A B held wanted width sheet records giving.Memory is read has = any_late (read_of held wanted width sheet)
