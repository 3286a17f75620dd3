use Rattle.sealed_bundle.proofs.Changes.{front_is_cut, more_is_refused}
use Rattle.sealed_bundle.proofs.laws.only_whole_is_opened.Goals as goal

pub returns-clause-fronts : goal.returns-clause-fronts
returns-clause-fronts _ = front_is_cut

pub returns-clause-more : goal.returns-clause-more
returns-clause-more _ = more_is_refused
