use Rattle.sealed_bundle.proofs.Openings.{first_again}
use Rattle.sealed_bundle.proofs.laws.first_is_opened.Goals as goal

pub returns : goal.returns
returns _ = first_again
