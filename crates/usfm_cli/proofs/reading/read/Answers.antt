use Rattle.std.proofs.Common.{Global, Err, sym, ap, subst, ◌∙◌}
use Rattle.std.proofs.lemmas.Result.{err_from_is_err_and}
use Rattle.sty_sheet.specs.Sheets.{sheet_of}
use Rattle.sty_sheet.specs.Views.{records_of}
use Rattle.usfm_export.specs.Books.{AnswersText}
use Rattle.usfm_cli.proofs.PlainReading.{read_without_text}
use Rattle.usfm_cli.proofs.reading.read.Goals as goal

pub returns-in_err-bytes : goal.returns-in_err-bytes
returns-in_err-bytes c =
    let fault = err_from_is_err_and c.from_residual-in_err-bytes.result c.from_residual-in_err-bytes.ensures.1 in
    let read = ap sheet_of (sym c.in_ok-text_in.ensures.ok.1) ∙ c.in_ok-sheet.ensures.sheet in
    rw (fault.1, fault.2)
    (read_without_text Global Global c.args.replica.now.held c.args.wanted c.args.width c.args.sheet.now
    (records_of c.in_ok-sheet.sheet) c.in_err-bytes.field-0.0 c.in_ok-text_in.ensures.ok.0 read
    (subst (λ book. AnswersText {A = Global} c.args.replica.now.held book (Err c.in_err-bytes.field-0.0)) c.book_of.ensures
    c.in_err-bytes.ensures))
