use Rattle.std.proofs.Common.{ap, sym, ⊎_elim}
use Rattle.std.proofs.lemmas.Str.{IsCharBoundary-start}
use Rattle.book_reading.specs.Leads.{number_length}
use Rattle.book_reading.specs.declared.lead.Lead.{Lead}
use Rattle.book_reading.proofs.lead.number_len.Goals as goal

pub returns-in-Nothing : goal.returns-in-Nothing
returns-in-Nothing c =
    let number = λ (lead : Lead). number_length lead c.args.text.now in
    record {
      value =
          ⊎_elim (λ is. ap number (sym is)) (λ others. ⊎_elim (λ is. ap number (sym is)) (λ is. ap number (sym is)) others)
          c.in-Nothing.is;
      boundary = IsCharBoundary-start c.args.text.now c.utf8.text;
    }
