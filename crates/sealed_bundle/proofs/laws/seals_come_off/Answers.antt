use Rattle.sealed_bundle.proofs.Openings.{seal_comes_off, bare_stays}
use Rattle.sealed_bundle.proofs.laws.seals_come_off.Goals as goal

pub returns-clause-sealed : goal.returns-clause-sealed
returns-clause-sealed _ = seal_comes_off

pub returns-clause-bare : goal.returns-clause-bare
returns-clause-bare _ = bare_stays
