use Rattle.std.proofs.Common.{Global, Ok, Err, is_ok, sym, ap, subst, ◌∙◌}
use Rattle.std.proofs.lemmas.Bool.{true≢false}
use Rattle.std.proofs.lemmas.Result.{err_from_is_err_and}
use Rattle.sty_sheet.specs.Sheets.{sheet_of}
use Rattle.sty_sheet.specs.Views.{records_of}
use Rattle.book_reports.specs.Reports as reports
use Rattle.usfm_cli.specs.Commands.{Gives}
use Rattle.command_faults.specs.Faults.{of_book_text, of_find}
use Rattle.usfm_cli.specs.OverBooks as over
use Rattle.usfm_cli.specs.SheetReports.{is_after_sheet}
use Rattle.usfm_cli.proofs.OverBooks.{hits_are, hits_without_text}
use Rattle.usfm_cli.proofs.Searched.{is_told_as_text, some_needle, search_refused}
use Rattle.usfm_cli.proofs.over_books.find.Goals as goal

pub returns-in_err-bytes : goal.returns-in_err-bytes
returns-in_err-bytes c =
    let fault = err_from_is_err_and c.from_residual-in_err-bytes.result c.from_residual-in_err-bytes.ensures.1 in
    let read = ap sheet_of (sym c.in_ok-text_in.ensures.ok.1) ∙ c.in_ok-sheet.ensures.sheet in
    rw (fault.1, fault.2)
    (subst (λ book. Gives {A = Global} (is_after_sheet c.args.sheet.now)
    (over.searched c.args.replica.now.held c.args.form book c.args.needle.now c.args.sheet.now)
    (Err (of_book_text c.in_err-bytes.field-0.0))) (sym c.in-Some.is)
    (hits_without_text Global Global c.args.replica.now.held c.args.form c.in-Some.book c.args.needle.now c.args.sheet.now
    (records_of c.in_ok-sheet.sheet) c.in_err-bytes.field-0.0 c.in_ok-text_in.ensures.ok.0 read c.in_err-bytes.ensures))

pub returns-in_err-text_in-2 : goal.returns-in_err-text_in-2
returns-in_err-text_in-2 c = absurd
    (is_told_as_text c.deref.result.now c.in_ok-bytes.bytes.items c.deref.ensures.value c.in_ok-bytes.ensures.1.is_text
    c.in_err-text_in-2.ensures.refused.0)

pub returns-in_err-find_book : goal.returns-in_err-find_book
returns-in_err-find_book c =
    let fault = err_from_is_err_and c.from_residual-in_err-find_book.result c.from_residual-in_err-find_book.ensures.1 in
    let read = ap sheet_of (sym c.in_ok-text_in.ensures.ok.1) ∙ c.in_ok-sheet.ensures.sheet in
    let is = hits_are c.args.replica.now.held c.args.form c.in-Some.book c.args.needle.now c.args.sheet.now
    (records_of c.in_ok-sheet.sheet) c.in_ok-text_in.ensures.ok.0 read c.in_ok-bytes.ensures.0 in
    rw (fault.1, fault.2)
    (subst (λ book. Gives {A = Global} (is_after_sheet c.args.sheet.now)
    (over.searched c.args.replica.now.held c.args.form book c.args.needle.now c.args.sheet.now)
    (Err (of_find c.in_err-find_book.field-0.0))) (sym c.in-Some.is)
    (search_refused Global c.args.sheet.now c.args.needle.now _ _ c.in_err-find_book.field-0.0 is
    (λ e. c.in_err-find_book.ensures.empty.0 (ap Err e))))

pub returns : goal.returns
returns c =
    let records = records_of c.in_ok-sheet.sheet in
    let read = ap sheet_of (sym c.in_ok-text_in.ensures.ok.1) ∙ c.in_ok-sheet.ensures.sheet in
    let is = hits_are c.args.replica.now.held c.args.form c.in-Some.book c.args.needle.now c.args.sheet.now records
    c.in_ok-text_in.ensures.ok.0 read c.in_ok-bytes.ensures.0 in
    let text = c.in_ok-text_in-2.ensures.ok.1 ∙ c.deref.ensures.value ∙ c.in_ok-bytes.ensures.1.text_is in
    ap (λ book. over.searched c.args.replica.now.held c.args.form book c.args.needle.now c.args.sheet.now) c.in-Some.is
    ∙ is ∙ some_needle c.args.needle.now _ (λ e. true≢false (ap is_ok (c.in_ok-find_book.ensures.empty.1 e)))
    ∙ ap Ok (sym (c.in_ok-find_book.ensures.hits
    ∙ ap (reports.searched c.args.form records c.args.needle.now c.in-Some.book) text))
