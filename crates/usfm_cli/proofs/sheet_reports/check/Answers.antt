use Rattle.std.proofs.Common.{Global, Ok, Err, ap}
use Rattle.std.proofs.lemmas.Result.{err_from_is_err_and}
use Rattle.segment_check.specs.Findings.{findings}
use Rattle.book_reports.specs.Lines.{finding_lines}
use Rattle.usfm_cli.proofs.Searched.{is_told_as_text, book_wanted, sheet_refused}
use Rattle.usfm_cli.proofs.sheet_reports.check.Goals as goal

pub returns-in_err-text_in-2 : goal.returns-in_err-text_in-2
returns-in_err-text_in-2 c = absurd
    (is_told_as_text c.deref.result.now c.in_ok-bytes.bytes.items c.deref.ensures.value c.in_ok-bytes.ensures.1.is_text
    c.in_err-text_in-2.ensures.refused.0)

pub returns-in_err-sheet : goal.returns-in_err-sheet
returns-in_err-sheet c =
    let fault = err_from_is_err_and c.from_residual-in_err-sheet.result c.from_residual-in_err-sheet.ensures.1 in
    rw (fault.1, fault.2)
    (sheet_refused c.args.sheet.now _ c.in_ok-text_in.ensures.ok.0 Global _ c.in_err-sheet.field-0.0
    c.in_ok-text_in.ensures.ok.1 c.in_err-sheet.ensures.sheet (λ e. c.in_err-sheet.ensures.memory (ap Err e))
    (λ records. book_wanted c.args.sheet.now c.args.replica.now.held c.args.book
    (λ text. Ok (finding_lines c.args.book (findings records text))) (λ text. tt)))
