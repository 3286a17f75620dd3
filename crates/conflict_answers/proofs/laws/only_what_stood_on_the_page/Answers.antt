use Rattle.conflict_answers.proofs.Settlings.{only_what_stood_on_the_page}
use Rattle.conflict_answers.proofs.laws.only_what_stood_on_the_page.Goals as goal

pub returns : goal.returns
returns c = only_what_stood_on_the_page
