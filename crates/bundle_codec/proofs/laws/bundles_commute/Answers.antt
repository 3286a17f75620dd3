use Rattle.bundle_codec.proofs.Groupings.{commutes}
use Rattle.bundle_codec.proofs.laws.bundles_commute.Goals as goal

pub returns : goal.returns
returns _ x y a b = commutes x y a b
