use Rattle.std.proofs.Common.{◌<◌, All, length, sym, subst}
use Rattle.sty_sheet.specs.Views.{records_of}
use Rattle.book_reports.proofs.Within.{findings_within}
use Rattle.book_reports.proofs.book.findings_in_text.Goals as goal

pub returns-clause-within : goal.returns-clause-within
returns-clause-within c =
    subst (All (λ f. f.start < length c.args.text.now)) (sym c.in_ok-found.ensures)
    (findings_within (records_of c.args.sheet.now) c.args.text.now)
