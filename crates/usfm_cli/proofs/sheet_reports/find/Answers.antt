use Rattle.std.proofs.Common.{Global, List, Ok, Err, is_ok, sym, ap, subst, ◌∙◌}
use Rattle.std.proofs.lemmas.Bool.{true≢false}
use Rattle.std.proofs.lemmas.Result.{err_from_is_err_and}
use Rattle.sty_sheet.specs.Sheets.{sheet_of}
use Rattle.sty_sheet.specs.Views.{records_of}
use Rattle.concordance.specs.Hits.{hits_of}
use Rattle.concordance.specs.Views.{hits_view}
use Rattle.usfm_cli.specs.Commands.{MayWantMemory}
use Rattle.book_reports.specs.Lines.{hit_lines}
use Rattle.usfm_cli.specs.SheetReports.{is_after_sheet}
use Rattle.usfm_cli.proofs.Searched.{is_told_as_text, searched_is, some_needle, search_is_late, search_refused, search_without_text, book_wanted, sheet_refused}
use Rattle.usfm_cli.proofs.sheet_reports.find.Goals as goal

pub returns-in_err-sheet : goal.returns-in_err-sheet
returns-in_err-sheet c =
    let fault = err_from_is_err_and c.from_residual-in_err-sheet.result c.from_residual-in_err-sheet.ensures.1 in
    rw (fault.1, fault.2)
    (sheet_refused c.args.sheet.now _ c.in_ok-text_in.ensures.ok.0 Global _ c.in_err-sheet.field-0.0
    c.in_ok-text_in.ensures.ok.1 c.in_err-sheet.ensures.sheet (λ e. c.in_err-sheet.ensures.memory (ap Err e))
    (λ records. book_wanted c.args.sheet.now c.args.replica.now.held c.args.book _
    (λ text. search_is_late c.args.sheet.now c.args.needle.now (hit_lines c.args.book (hits_of records text c.args.needle.now)))))

pub returns-in_err-bytes : goal.returns-in_err-bytes
returns-in_err-bytes c =
    let fault = err_from_is_err_and c.from_residual-in_err-bytes.result c.from_residual-in_err-bytes.ensures.1 in
    let read = ap sheet_of (sym c.in_ok-text_in.ensures.ok.1) ∙ c.in_ok-sheet.ensures.sheet in
    rw (fault.1, fault.2)
    (search_without_text Global Global c.args.replica.now.held c.args.book c.args.sheet.now c.args.needle.now
    (records_of c.in_ok-sheet.sheet) c.in_err-bytes.field-0.0 c.in_ok-text_in.ensures.ok.0 read c.in_err-bytes.ensures)

pub returns-in_err-text_in-2 : goal.returns-in_err-text_in-2
returns-in_err-text_in-2 c = absurd
    (is_told_as_text c.deref.result.now c.in_ok-bytes.bytes.items c.deref.ensures.value c.in_ok-bytes.ensures.1.is_text
    c.in_err-text_in-2.ensures.refused.0)

pub returns-in_err-hits : goal.returns-in_err-hits
returns-in_err-hits c =
    let fault = err_from_is_err_and c.from_residual-in_err-hits.result c.from_residual-in_err-hits.ensures.1 in
    let is = searched_is c.args.replica.now.held c.args.book c.args.sheet.now c.args.needle.now
    (records_of c.in_ok-sheet.sheet) c.in_ok-text_in.ensures.ok.0
    (ap sheet_of (sym c.in_ok-text_in.ensures.ok.1) ∙ c.in_ok-sheet.ensures.sheet) c.in_ok-bytes.ensures.0 in
    rw (fault.1, fault.2) (search_refused Global c.args.sheet.now c.args.needle.now _ _ c.in_err-hits.field-0.0 is
    (λ e. c.in_err-hits.ensures.empty.0 (ap Err e)))

pub returns-in_err-hit_lines : goal.returns-in_err-hit_lines
returns-in_err-hit_lines c =
    let fault = err_from_is_err_and c.from_residual-in_err-hit_lines.result c.from_residual-in_err-hit_lines.ensures.1 in
    let is = searched_is c.args.replica.now.held c.args.book c.args.sheet.now c.args.needle.now
    (records_of c.in_ok-sheet.sheet) c.in_ok-text_in.ensures.ok.0
    (ap sheet_of (sym c.in_ok-text_in.ensures.ok.1) ∙ c.in_ok-sheet.ensures.sheet) c.in_ok-bytes.ensures.0 in
    rw (fault.1, fault.2) (subst (MayWantMemory (is_after_sheet c.args.sheet.now)) (sym is)
    (search_is_late c.args.sheet.now c.args.needle.now _))

pub returns : goal.returns
returns c =
    let records = records_of c.in_ok-sheet.sheet in
    let is = searched_is c.args.replica.now.held c.args.book c.args.sheet.now c.args.needle.now records c.in_ok-text_in.ensures.ok.0
    (ap sheet_of (sym c.in_ok-text_in.ensures.ok.1) ∙ c.in_ok-sheet.ensures.sheet) c.in_ok-bytes.ensures.0 in
    let text = c.in_ok-text_in-2.ensures.ok.1 ∙ c.deref.ensures.value ∙ c.in_ok-bytes.ensures.1.text_is in
    let hits =
    ap hits_view c.deref-2.ensures.value ∙ c.in_ok-hits.ensures.hits ∙ ap (λ (t : List _). hits_of records t c.args.needle.now) text in
    is ∙ some_needle c.args.needle.now _ (λ e. true≢false (ap is_ok (c.in_ok-hits.ensures.empty.1 e)))
    ∙ ap Ok (sym (c.in_ok-hit_lines.ensures ∙ ap (hit_lines c.args.book) hits))
