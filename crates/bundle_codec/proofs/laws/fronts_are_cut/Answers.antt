use Rattle.bundle_codec.proofs.OneSpelling.{front_is_cut, front_is_none}
use Rattle.bundle_codec.proofs.laws.fronts_are_cut.Goals as goal

pub returns-clause-bundle : goal.returns-clause-bundle
returns-clause-bundle c = λ a b more s t m n e. front_is_none a b more (s, m) (t, n) e

pub returns-clause-fault : goal.returns-clause-fault
returns-clause-fault c = λ a front more s m e some. front_is_cut a front more (s, m) e some
