use Rattle.std.proofs.Common.{Global, None, Err, refl, ap}
use Rattle.usfm_cli.specs.OverBooks.{listed}
use Rattle.usfm_cli.specs.SheetReports.{is_after_sheet}
use Rattle.usfm_cli.proofs.OverBooks.{seen_wants, reads_in_place}
use Rattle.usfm_cli.proofs.over_books.word_project.Goals as goal

pub returns-in_err-replica-clause-memory : goal.returns-in_err-replica-clause-memory
returns-in_err-replica-clause-memory c =
    reads_in_place Global c.args.project.now None (is_after_sheet c.args.sheet.now) (λ held. listed held c.args.sheet.now)
    c.in_err-replica.field-0.0 c.from_residual.result c.in_err-replica.ensures.refused
    (λ s loads sees m. c.in_err-replica.ensures.nothing_seen s loads sees (ap Err m))

pub returns-clause-memory : goal.returns-clause-memory
returns-clause-memory c =
    seen_wants Global c.args.project.now None c.in_ok-replica.replica (is_after_sheet c.args.sheet.now)
    (λ held. listed held c.args.sheet.now) c.words.result c.in_ok-replica.ensures.seen (λ s. refl) c.words.ensures
