use Rattle.std.proofs.Common.{Global, Err, ap}
use Rattle.usfm_cli.specs.OverBooks.{checked}
use Rattle.usfm_cli.specs.SheetReports.{is_after_sheet}
use Rattle.usfm_cli.proofs.OverBooks.{checked_given, checked_same, seen_wants, reads_in_place}
use Rattle.usfm_cli.proofs.over_books.check_project.Goals as goal

pub returns-clause-answer : goal.returns-clause-answer
returns-clause-answer c =
    checked_given Global c.args.project.now c.args.book c.in_ok-replica.replica c.args.form c.args.sheet.now c.check.result
    c.in_ok-replica.ensures.seen c.check.ensures

pub returns-in_err-replica-clause-memory : goal.returns-in_err-replica-clause-memory
returns-in_err-replica-clause-memory c =
    reads_in_place Global c.args.project.now c.args.book (is_after_sheet c.args.sheet.now)
    (λ held. checked held c.args.form c.args.book c.args.sheet.now) c.in_err-replica.field-0.0 c.from_residual.result
    c.in_err-replica.ensures.refused (λ s loads sees m. c.in_err-replica.ensures.nothing_seen s loads sees (ap Err m))

pub returns-clause-memory : goal.returns-clause-memory
returns-clause-memory c =
    seen_wants Global c.args.project.now c.args.book c.in_ok-replica.replica (is_after_sheet c.args.sheet.now)
    (λ held. checked held c.args.form c.args.book c.args.sheet.now) c.check.result c.in_ok-replica.ensures.seen
    (λ s. checked_same c.args.book s c.args.form c.args.sheet.now) c.check.ensures
