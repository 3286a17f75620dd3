use Rattle.bundle_codec.proofs.Groupings.{associates}
use Rattle.bundle_codec.proofs.laws.bundles_associate.Goals as goal

pub returns : goal.returns
returns _ = associates
