use Rattle.bundle_codec.proofs.Groupings.{of_one_family}
use Rattle.bundle_codec.proofs.laws.bundles_of_one_family.Goals as goal

pub returns : goal.returns
returns _ family x y z a b c = of_one_family family x y z a b c
