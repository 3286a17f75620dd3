use Rattle.sealed_bundle.proofs.Openings.{sealed_again, opened_is}
use Rattle.sealed_bundle.proofs.laws.sealed_is_opened.Goals as goal

pub returns-clause-opened : goal.returns-clause-opened
returns-clause-opened _ = sealed_again

pub returns-clause-sealed : goal.returns-clause-sealed
returns-clause-sealed _ = λ bytes bundle fits read. (opened_is bytes bundle fits read).spelled
