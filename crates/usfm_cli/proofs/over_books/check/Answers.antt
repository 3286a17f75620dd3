use Rattle.std.proofs.Common.{Global, Err, sym, ap, subst, ◌∙◌}
use Rattle.std.proofs.lemmas.Result.{err_from_is_err_and}
use Rattle.sty_sheet.specs.Sheets.{sheet_of}
use Rattle.sty_sheet.specs.Views.{records_of}
use Rattle.usfm_cli.specs.Commands.{Gives}
use Rattle.command_faults.specs.Faults.{of_book_text}
use Rattle.usfm_cli.specs.OverBooks as over
use Rattle.usfm_cli.specs.SheetReports.{is_after_sheet}
use Rattle.usfm_cli.proofs.OverBooks.{findings_without_text}
use Rattle.usfm_cli.proofs.Searched.{is_told_as_text}
use Rattle.usfm_cli.proofs.over_books.check.Goals as goal

pub returns-in_err-bytes : goal.returns-in_err-bytes
returns-in_err-bytes c =
    let fault = err_from_is_err_and c.from_residual-in_err-bytes.result c.from_residual-in_err-bytes.ensures.1 in
    let read = ap sheet_of (sym c.in_ok-text_in.ensures.ok.1) ∙ c.in_ok-sheet.ensures.sheet in
    rw (fault.1, fault.2)
    (subst (λ book. Gives {A = Global} (is_after_sheet c.args.sheet.now)
    (over.checked c.args.replica.now.held c.args.form book c.args.sheet.now)
    (Err (of_book_text c.in_err-bytes.field-0.0))) (sym c.in-Some.is)
    (findings_without_text Global Global c.args.replica.now.held c.args.form c.in-Some.book c.args.sheet.now
    (records_of c.in_ok-sheet.sheet) c.in_err-bytes.field-0.0 c.in_ok-text_in.ensures.ok.0 read c.in_err-bytes.ensures))

pub returns-in_err-text_in-2 : goal.returns-in_err-text_in-2
returns-in_err-text_in-2 c = absurd
    (is_told_as_text c.deref.result.now c.in_ok-bytes.bytes.items c.deref.ensures.value c.in_ok-bytes.ensures.1.is_text
    c.in_err-text_in-2.ensures.refused.0)
