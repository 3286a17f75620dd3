use Rattle.concordance.specs.Views.{hits_view}
use Rattle.book_reports.proofs.Within.{apart_fit}
use Rattle.book_reports.proofs.book.hits_in_text.Goals as goal

pub returns-clause-within : goal.returns-clause-within
returns-clause-within c = apart_fit c.args.text.now 0 (hits_view c.in_ok-hits.hits.items) c.in_ok-hits.ensures.apart
